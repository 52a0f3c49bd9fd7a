use Rattle.std.proofs.Common.{◌+◌, ◌-◌, arith}
use Rattle.score.specs.Inputs.{stage, stage_at}
use Rattle.score.proofs.Advances.{fills_on, fills_at}
use Rattle.score.proofs.Stages.{skip_levels}
use Rattle.score.proofs.sums.Sums.fill_span.Goals as goal

pub returns-clause-fills : goal.returns-clause-fills
returns-clause-fills g c =
    let s = g.S.Semiring.scale in
    let x = c.args.self.now.input.now in
    let t = c.args.self.now.table.now in
    let i = c.args.span.start in
    let d = c.args.span.end - i in
    let at = stage_at c.args.span in
    fills_on s x t c.loop-level.self.table.now (at 0 0 0) (at 18 0 0) (stage d (i + 1) 0 0 0)
    (fills_at s x t c.loop-level.self.table.now (at 0 0 0) (at c.loop-level.level 0 0) (at 0 0 0) (at 18 0 0) (omega arith)
    (omega (arith, c.loop-level-test.false, c.loop-level.auto.level-end)) c.loop-level.invariant.1)
    (λ start rs W given q l m n h lmn less. skip_levels s x start rs W given d i q l m n h less)
