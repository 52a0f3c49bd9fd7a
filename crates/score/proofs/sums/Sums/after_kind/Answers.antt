use Rattle.score.proofs.Worded.{no_word, other_word, word}
use Rattle.score.proofs.sums.Sums.after_kind.Goals as goal

pub returns-then-span : goal.returns-then-span
returns-then-span g c =
    let e = c.args.entry in
    no_word g.S.Semiring.scale c.args.self.now.input.now c.args.self.now.table.now e.production e.dot c.args.kind c.requires.inside.0
    c.requires.stands c.requires.high e.span.start e.span.end c.none.result c.none.ensures c.if-span.true

pub returns-then-self-last : goal.returns-then-self-last
returns-then-self-last g c =
    let e = c.args.entry in
    other_word g.S.Semiring.scale c.args.self.now.input.now c.args.self.now.table.now e.production e.dot c.args.kind c.requires.inside.0
    c.requires.stands c.requires.high e.span.start e.span.end c.none-then-self-last.result c.none-then-self-last.ensures c.if-span.false
    c.if-self-last.true

pub returns : goal.returns
returns g c =
    let e = c.args.entry in
    word g.S.Semiring.scale c.args.self.now.input.now c.args.self.now.table.now e.production e.dot c.args.kind c.requires.inside.0
    c.requires.stands c.requires.high e.span.start e.span.end c.held.result c.if-span.false c.requires.inside.3 c.held.ensures
    c.if-self-last.false
