use Rattle.std.proofs.Common.{get_or, sym, ap}
use Rattle.score.proofs.Places.{read_right}
use Rattle.score.proofs.Splitting.{splits_right}
use Rattle.score.proofs.sums.Sums.after.Goals as goal

pub returns-then-symbol-lt16 : goal.returns-then-symbol-lt16
returns-then-symbol-lt16 g c start rs W given right =
    let e = c.args.entry in
    let x = c.args.self.now.input.now in
    let is = read_right x.productions.now e.production _ c.requires.inside.0 _ c.right.ensures in
    splits_right g.S.Semiring.scale g.met.S.Semiring.laws x start rs W given e.production e.dot e.span.start
    e.span.end c.requires.inside.0 c.requires.position e.span.ordered c.requires.inside.3 c.args.self.now.table.now right
    _ (c.requires.position, ap (λ xs. get_or xs e.dot 0) (sym is)) c.if-symbol-lt16.true c.splits.result c.splits.ensures
