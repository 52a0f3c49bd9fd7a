use Rattle.std.proofs.Common.{get_or, sym, ap, ◌∙◌, rules}
use Rattle.std.proofs.lemmas.List.{get_or_read}
use Rattle.score.proofs.Places.{index_below}
use Rattle.score.proofs.sums.Sums.held.Goals as goal

pub offset_bounds-self-index : goal.offset_bounds-self-index
offset_bounds-self-index g c =
    let below = index_below c.args.self.now.input.now c.args.entry c.requires.inside _ _ c.index.ensures c.args.self.now.room in
    search rules

pub bounds-self-index : goal.bounds-self-index
bounds-self-index g c = index_below c.args.self.now.input.now c.args.entry c.requires.inside _ _ c.index.ensures c.args.self.now.room

pub returns : goal.returns
returns g c =
    let none = g.S.Semiring.scale.none in
    let table = c.args.self.now.table.now in
    let below = index_below c.args.self.now.input.now c.args.entry c.requires.inside _ _ c.index.ensures c.args.self.now.room in
    sym c.index-self-index.is
    ∙ get_or_read table c.index.result _ below c.index-self-index.is none
    ∙ ap (λ z. get_or table z none) c.index.ensures
