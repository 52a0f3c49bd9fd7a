use Rattle.std.proofs.Common.{◌≡◌, length}
use Rattle.listing.specs.Asked.{RowsFrom}
use Rattle.listing.proofs.node.Node.rows.Given as goal

abbrev pub invariant-loop-place : goal.invariant-loop-place
invariant-loop-place l = (length l.rows ≡ 7) × RowsFrom l.self l.place l.rows
