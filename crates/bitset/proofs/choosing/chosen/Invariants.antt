use Rattle.std.proofs.Common.{◌≡◌, ℕ, ◌<◌, ◌≤◌, true, false}
use Rattle.bitset.specs.Bits.{Has}
use Rattle.bitset.proofs.choosing.chosen.Given as goal

abbrev pub invariant-loop-x : goal.invariant-loop-x
invariant-loop-x g l =
    (l.fn.numbers.start ≤ l.x-iterator.start)
    × (l.x-iterator.end ≡ l.fn.numbers.end)
    × ((y : ℕ) → Has (g.S.Bits.number l.set) y → (l.fn.numbers.start ≤ y) × (y < l.x-iterator.start) × (y < l.fn.numbers.end) × g.F.Fn.post l.test (y, tt) true)
    × ((y : ℕ) → l.fn.numbers.start ≤ y → y < l.x-iterator.start → (¬ Has (g.S.Bits.number l.set) y) → g.F.Fn.post l.test (y, tt) false)
