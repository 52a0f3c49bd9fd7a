use Rattle.std.proofs.Common.{◌+◌, ◌/◌, ◌^◌, ◌<◌, get_or, arith, rules}
use Rattle.chart.specs.Chart.{cell_of}
use Rattle.chart.proofs.Growing.{added, marked_grows}
use Rattle.chart.proofs.items.add.Goals as goal

pub returns : goal.returns
returns c =
    let a = c.args.cells.now in
    let at = cell_of c.args.i c.args.j in
    let d = c.args.d in
    let v = rw c.set_of.ensures at c.mark.ensures in
    let fit : get_or a (at + d / 64) 0 < 2 ^ 64 = search rules in
    added a c.mark.new.cells at d c.mark.result (omega arith) (omega arith) v.same
    (marked_grows a c.mark.new.cells at d c.mark.result (omega arith) (omega arith) fit v.same (λ t h. v.yes t (omega arith, h)) v.no)
