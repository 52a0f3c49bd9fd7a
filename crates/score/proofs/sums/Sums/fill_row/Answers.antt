use Rattle.std.proofs.Common.{◌+◌, ◌-◌, length, arith}
use Rattle.grammar.specs.Grammar.{right_at}
use Rattle.score.specs.Inputs.{productions_in, stage_at}
use Rattle.score.proofs.Advances.{fills_on, fills_at}
use Rattle.score.proofs.Places.{read_places}
use Rattle.score.proofs.Stages.{skip_dots}
use Rattle.score.proofs.sums.Sums.fill_row.Goals as goal

pub returns-clause-fills : goal.returns-clause-fills
returns-clause-fills g c =
    let s = g.S.Semiring.scale in
    let x = c.args.self.now.input.now in
    let t = c.args.self.now.table.now in
    let p = c.args.p in
    let i = c.args.span.start in
    let d = c.args.span.end - i in
    let at = stage_at c.args.span c.args.level in
    let last = length (right_at (productions_in x) p) + 1 in
    let size = read_places x.productions.now p _ c.requires.known _ c.places-dot-end.ensures.value in
    fills_on s x t c.loop-dot.self.table.now (at p 0) (at p last) (at (p + 1) 0)
    (fills_at s x t c.loop-dot.self.table.now (at p 0) (at p c.loop-dot.dot) (at p 0) (at p last) (omega arith)
    (omega (arith, size, c.loop-dot-test.false, c.loop-dot.auto.dot-end)) c.loop-dot.invariant.1)
    (λ start rs W given q l m n h lmn less.
    skip_dots s x start rs W given p d i c.args.level (omega (arith, c.requires.within, c.args.span.ordered, x.few_words))
    (omega (arith, c.requires.low)) c.requires.known q l m n h less)
