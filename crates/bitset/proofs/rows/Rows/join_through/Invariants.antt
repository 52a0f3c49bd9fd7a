use Rattle.std.proofs.Common.{◌≡◌, ℕ, ◌^◌, ◌<◌, length, get_or}
use Rattle.bitset.proofs.Joining.{Joined}
use Rattle.bitset.proofs.rows.Rows.join_through.Given as goal

abbrev pub invariant-loop-row : goal.invariant-loop-row
invariant-loop-row l =
    (length l.row-items ≡ 32)
    × ((k : ℕ) → get_or l.row-items k 0 < 2 ^ 32)
    × Joined l.m l.row-index l.fn.self.rows l.row-items
