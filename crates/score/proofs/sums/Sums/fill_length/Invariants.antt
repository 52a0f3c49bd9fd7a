use Rattle.score.specs.Inputs.{stage}
use Rattle.score.specs.Filling.{Kept, Fills}
use Rattle.score.proofs.sums.Sums.fill_length.Given as goal

abbrev pub invariant-loop-start : goal.invariant-loop-start
invariant-loop-start g l =
    let before = l.initial.self in
    Kept before l.self
    × Fills g.S.Semiring.scale before.input.now before.table.now l.self.table.now (stage l.len 0 0 0 0) (stage l.len l.start 0 0 0)
