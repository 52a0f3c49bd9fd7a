use Rattle.std.proofs.Common.{◌≡◌, ℕ, ◌+◌, Bool, drop}
use Rattle.std.specs.List.{prefix_len}
use Rattle.lines.proofs.next.front.Given as goal

abbrev pub invariant-loop-i : goal.invariant-loop-i
invariant-loop-i g l =
    (p : ℕ → Bool) →
    ((byte : ℕ) (passed : Bool) → goal.F-post g l.passes byte passed → passed ≡ p byte) →
    l.i + prefix_len p (drop l.i l.text) ≡ prefix_len p l.text
