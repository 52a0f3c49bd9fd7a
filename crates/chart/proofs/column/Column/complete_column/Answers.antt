use Rattle.std.proofs.Common.{◌≡◌, ◌-◌, rules, arith, List, ℕ, subst}
use Rattle.chart.specs.Columns.{OriginDone}
use Rattle.chart.proofs.column.Column.complete_column.Goals as goal

pub returns-clause-done : goal.returns-clause-done
returns-clause-done c same s l =
    let col = c.args.self.now in
    let here = c.pass.ensures.done same (col.end - s) (omega arith) in
    let done : OriginDone col here.1.now (col.end - (col.end - s)) = search rules in
    let at : col.end - (col.end - s) ≡ s = omega arith in
    subst (OriginDone col c.pass.new.cells) at (subst (λ (cells : List ℕ). OriginDone col cells (col.end - (col.end - s))) here.3 done)
