use Rattle.score.specs.Inputs.{stage}
use Rattle.score.specs.Filling.{Kept, Fills}
use Rattle.score.proofs.sums.Sums.fill.Given as goal

abbrev pub invariant-loop-len : goal.invariant-loop-len
invariant-loop-len g l =
    let before = l.initial.self in
    Kept before l.self
    × Fills g.S.Semiring.scale before.input.now before.table.now l.self.table.now (stage 0 0 0 0 0) (stage l.len 0 0 0 0)
