use Rattle.std.proofs.Common.{◌≡◌, ℕ, List, length}
use Rattle.std.specs.Io.KnownBytes.{Appends, Consumes}
use Rattle.walk.specs.declared.scores.LineReport.{LineReport}
use Rattle.walk.specs.Sessions.{TakesPart, written}
use Rattle.walk.proofs.input.read_lines.Given as goal

abbrev pub invariant-loop : goal.invariant-loop
invariant-loop g l =
    let remaining = g.R.Read.remaining in
    let contents = g.W.Write.contents in (
    (length l.part ≡ 8192)
    × ((moved : List ℕ) × (rs : List LineReport) × Consumes (remaining l.initial.input) (remaining l.input) moved × TakesPart l.initial.session moved rs l.session
    × Appends (contents l.initial.out) (contents l.out) (written rs))
    )
