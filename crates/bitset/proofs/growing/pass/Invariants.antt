use Rattle.std.proofs.Common.{◌≡◌, ℕ, ◌^◌, ◌<◌, ◌≤◌}
use Rattle.bitset.specs.Steps.{Reached, AnyBelow}
use Rattle.bitset.proofs.growing.pass.Given as goal

-- the steps only add, and where they add nothing each of them adds nothing
abbrev pub invariant-loop-k : goal.invariant-loop-k
invariant-loop-k g l =
    (l.set ≤ l.next)
    × (l.next < 2 ^ 32)
    × Reached (AnyBelow l.count (goal.F-post g l.step)) l.next
    × (l.next ≡ l.set → (k : ℕ) → k < l.k → goal.F-post g l.step l.set k l.set)
