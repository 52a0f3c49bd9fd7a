use Rattle.std.proofs.Common.{◌≡◌, ◌+◌, ◌-◌, set, sym, ◌∙◌, subst, arith, rules}
use Rattle.score.specs.Inputs.{level_in, stage_at}
use Rattle.score.specs.Filling.{Fills}
use Rattle.score.proofs.Advances.{fills_none, fills_on, fills_at, fills_one}
use Rattle.score.proofs.Places.{index_below}
use Rattle.score.proofs.Stages.{skip_level}
use Rattle.score.proofs.sums.Sums.fill_entry.Goals as goal

pub offset_bounds-self-index : goal.offset_bounds-self-index
offset_bounds-self-index g c =
    let below = index_below c.args.self.now.input.now c.args.entry c.requires.inside _ _ c.index.ensures c.args.self.now.room in
    search rules

pub bounds-self-index : goal.bounds-self-index
bounds-self-index g c = index_below c.args.self.now.input.now c.args.entry c.requires.inside _ _ c.index.ensures c.args.self.now.room

pub returns-then-level-clause-fills : goal.returns-then-level-clause-fills
returns-then-level-clause-fills g c =
    let s = g.S.Semiring.scale in
    let x = c.args.self.now.input.now in
    let t = c.args.self.now.table.now in
    let e = c.args.entry in
    let at = stage_at e.span c.args.level e.production e.dot in
    let same : level_in x e.production e.dot ≡ c.args.level = sym c.level.ensures ∙ c.if-level.true in
    let f =
    fills_one s x t e.production e.dot e.span.start e.span.end c.requires.inside e.span.ordered c.args.self.now.room
    c.made-sum.result c.made-sum.ensures in
    let h = fills_at s x t _ _ _ at (at + 1) (omega (arith, same)) (omega (arith, same)) f in
    subst (λ z. Fills s x t (set t z c.made-sum.result) at (at + 1)) (sym c.index.ensures) h

pub returns-else-level-clause-fills : goal.returns-else-level-clause-fills
returns-else-level-clause-fills g c =
    let s = g.S.Semiring.scale in
    let x = c.args.self.now.input.now in
    let t = c.args.self.now.table.now in
    let e = c.args.entry in
    let i = e.span.start in
    let inside = c.requires.inside in
    let at = stage_at e.span c.args.level e.production e.dot in
    fills_on s x t t at at (at + 1) (fills_none s x t at)
    (λ start rs W given q l m n h lmn less.
    skip_level s x start rs W given e.production e.dot (e.span.end - i) i c.args.level (omega (arith, inside.2, x.few_words))
    (omega (arith, c.requires.low)) (omega (arith, inside.0, x.few)) (omega (arith, inside.1, (given.formed.sides e.production inside.0).1))
    (λ h. c.if-level.false (c.level.ensures ∙ h)) q l m n h less)
