use Rattle.std.proofs.Common.{refl, subst, arith}
use Rattle.bitset.specs.Bits.{Has}
use Rattle.bitset.proofs.Digits.{none_of_zero}
use Rattle.bitset.proofs.Joining.{zeros}
use Rattle.bitset.proofs.rows.Rows.empty.Goals as goal

pub invariant_of-result : goal.invariant_of-result
invariant_of-result c = record { whole = refl; narrow = λ k. omega (arith, zeros 32 k) }

pub returns : goal.returns
returns c = λ p q h. none_of_zero q (subst (λ n. Has n q) (zeros 32 p) h)
