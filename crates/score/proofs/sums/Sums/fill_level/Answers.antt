use Rattle.std.proofs.Common.{◌+◌, ◌-◌, length, arith}
use Rattle.std.proofs.lemmas.List.{length-map}
use Rattle.grammar.specs.Model.{production}
use Rattle.score.specs.Inputs.{productions_in, stage_at}
use Rattle.score.proofs.Advances.{fills_on, fills_at}
use Rattle.score.proofs.Stages.{skip_productions}
use Rattle.score.proofs.sums.Sums.fill_level.Goals as goal

pub returns-clause-fills : goal.returns-clause-fills
returns-clause-fills g c =
    let s = g.S.Semiring.scale in
    let x = c.args.self.now.input.now in
    let t = c.args.self.now.table.now in
    let i = c.args.span.start in
    let d = c.args.span.end - i in
    let level = c.args.level in
    let at = stage_at c.args.span in
    let count = length (productions_in x) in
    fills_on s x t c.loop-p.self.table.now (at level 0 0) (at level count 0) (at (level + 1) 0 0)
    (fills_at s x t c.loop-p.self.table.now (at level 0 0) (at level c.loop-p.p 0) (at level 0 0) (at level count 0) (omega arith)
    (omega (arith, length-map x.productions.now production, c.loop-p-test.false, c.loop-p.auto.p-end)) c.loop-p.invariant.1)
    (λ start rs W given q l m n h lmn less. skip_productions s x start rs W given d i level q l m n h less)
