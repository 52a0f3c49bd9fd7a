use Rattle.std.proofs.Common.{◌≡◌}
use Rattle.bitset.specs.Bits.{Has}
use Rattle.derivations.specs.Steps.{Gathers}
use Rattle.tables.specs.Sets.{Marked}
use Rattle.tables.proofs.marking.mark_each.Given as goal

abbrev pub invariant-loop-x : goal.invariant-loop-x
invariant-loop-x l = Gathers (Marked l.initial.cells) (Marked l.cells) l.x (λ x y e. (y ≡ x) × Has l.numbers x × (e ≡ l.d))
