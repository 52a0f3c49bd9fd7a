use Rattle.std.proofs.Common.{◌≡◌, ℕ, subst, rules}
use Rattle.bitset.specs.Bits.{Has}
use Rattle.bitset.proofs.Digits.{none_of_zero}
use Rattle.bitset.proofs.choosing.chosen.Goals as goal

pub loop-x-init : goal.loop-x-init
loop-x-init g c =
    let all : c.into_iter-x-iterator.result.end ≡ c.args.numbers.end = search rules in
    let none : (y : ℕ) → ¬ Has (g.S.Bits.number c.narrowed-set.result) y = λ y h. none_of_zero y (subst (λ n. Has n y) c.narrowed-set.ensures h) in
    search rules
