use Rattle.score.specs.Inputs.{stage_at}
use Rattle.score.specs.Filling.{Kept, Fills}
use Rattle.score.proofs.sums.Sums.fill_row.Given as goal

abbrev pub invariant-loop-dot : goal.invariant-loop-dot
invariant-loop-dot g l =
    let before = l.initial.self in
    Kept before l.self
    × Fills g.S.Semiring.scale before.input.now before.table.now l.self.table.now (stage_at l.span l.level l.p 0) (stage_at l.span l.level l.p l.dot)
