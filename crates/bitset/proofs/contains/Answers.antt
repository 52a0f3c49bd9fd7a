use Rattle.std.proofs.Common.{◌/◌, ◌^◌, ◌<◌, sym, ◌∙◌, subst, arith, pow_mono}
use Rattle.std.proofs.lemmas.Bool.{eqb-true, eqb-false}
use Rattle.bitset.specs.Bits.{bit, Has}
use Rattle.bitset.proofs.Digits.{and_one, none_past}
use Rattle.bitset.proofs.contains.Goals as goal

pub returns-then-x-lt64 : goal.returns-then-x-lt64
unfolding bit
returns-then-x-lt64 g c =
    let one = and_one (c.widened-wide.result / 2 ^ c.args.x) in
    let same = c.widened-wide.ensures.same in
    record {
      yes = λ e. subst (λ n. Has n c.args.x) same (sym one ∙ eqb-true _ 1 e);
      no = λ e h. eqb-false _ 1 e (one ∙ subst (λ n. Has n c.args.x) (sym same) h);
    }

pub returns-else-x-lt64-clause-no : goal.returns-else-x-lt64-clause-no
returns-else-x-lt64-clause-no g c past h =
    let wide = c.widened-wide.result in
    let small : wide < 2 ^ c.args.x = omega (arith, c.widened-wide.type_inv, pow_mono c.if-x-lt64.false) in
    none_past wide c.args.x small (subst (λ n. Has n c.args.x) (sym c.widened-wide.ensures.same) h)
