use Rattle.std.proofs.Common.{rules, List, ℕ, subst}
use Rattle.chart.specs.Chart.{Marked}
use Rattle.chart.specs.Columns.{Begun}
use Rattle.chart.proofs.column.Column.predict_column.Goals as goal

pub returns-clause-done : goal.returns-clause-done
returns-clause-done c same q l alive i d li ld h w =
    let col = c.args.self.now in
    let here = c.pass.ensures.done same q l in
    let begun : Begun col c.gather-places.result here.1.now q = search rules in
    let back : Marked c.args.cells.now i col.end d
    = subst (λ (cells : List ℕ). Marked cells i col.end d) (c.pass.ensures.moved.growth.quiet same) h in
    subst (λ (cells : List ℕ). Begun col c.gather-places.result cells q) here.3 begun alive d ld (c.gather-places.ensures.all i d li ld back) w
