use Rattle.score.specs.Inputs.{stage_at}
use Rattle.score.specs.Filling.{Kept, Fills}
use Rattle.score.proofs.sums.Sums.fill_span.Given as goal

abbrev pub invariant-loop-level : goal.invariant-loop-level
invariant-loop-level g l =
    let before = l.initial.self in
    Kept before l.self
    × Fills g.S.Semiring.scale before.input.now before.table.now l.self.table.now (stage_at l.span 0 0 0) (stage_at l.span l.level 0 0)
