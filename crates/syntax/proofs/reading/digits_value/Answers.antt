use Rattle.std.proofs.Common.{arith}
use Rattle.std.proofs.lemmas.Str.Parse.{digit_at}
use Rattle.syntax.proofs.Numbers.{front_small, digits_step}
use Rattle.syntax.proofs.reading.digits_value.Goals as goal

pub overflow_mul-n : goal.overflow_mul-n
overflow_mul-n c = omega (arith, front_small c.args.digits.now c.loop-byte.byte-index c.requires c.loop-byte.invariant.0)

pub overflow_add-n : goal.overflow_add-n
overflow_add-n c =
    let i = c.loop-byte.byte-index in
    omega (arith, front_small c.args.digits.now i c.requires c.loop-byte.invariant.0, c.type_inv.digits i)

pub loop-byte-preserved : goal.loop-byte-preserved
loop-byte-preserved c =
    let inv = c.loop-byte.invariant in
    let digit = c.if-not-is_ascii_digit.ensures.cases in
    digits_step c.args.digits.now c.loop-byte.byte-index c.loop-byte.n _ (omega arith) digit c.from.ensures inv.0 inv.1

pub returns-then-not-is_ascii_digit : goal.returns-then-not-is_ascii_digit
returns-then-not-is_ascii_digit c = λ h.
    omega (arith, digit_at c.args.digits.now c.loop-byte.byte-index h (omega arith), c.if-not-is_ascii_digit.ensures.cases)
