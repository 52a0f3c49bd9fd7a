use Rattle.std.proofs.Common.{ℕ, ◌+◌, ◌-◌, List, ◌++◌, take, drop, ap, ◌∙◌}
use Rattle.grammar.proofs.Extending.{extended}
use Rattle.grammar.proofs.bytes.Bytes.extend.Goals as goal

pub returns : goal.returns
returns g c =
    let b = c.args.self.now in
    let size = c.min-size.result in
    ap (λ (ys : List ℕ). take (b.count + size) (take b.count b.bytes ++ (ys ++ drop (b.count + size - b.count) (drop b.count b.bytes)))) c.copy_from_slice.ensures.after
    ∙ extended g.row.N b.bytes c.args.more.now _ b.count size b.whole b.few c.min-size.ensures
