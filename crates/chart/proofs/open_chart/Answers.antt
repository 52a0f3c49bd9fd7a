use Rattle.std.proofs.Common.{◌≡◌, [], length, drop, arith, rules}
use Rattle.chart.proofs.Steady.{started_more}
use Rattle.chart.proofs.Words.{opened}
use Rattle.chart.proofs.Fronts.{back_length, charted_whole, rest_kept}
use Rattle.chart.proofs.open_chart.Goals as goal

pub loop-p-preserved : goal.loop-p-preserved
loop-p-preserved c =
    let v = c.add_start.ensures in
    started_more c.args.t.now c.loop-p.p c.clear.new.cells c.loop-p.cells _ _ c.loop-p.invariant v.moved v.makes

pub returns : goal.returns
returns c =
    let lent = c.in-Some.ensures.cases in
    let cells = c.args.cells.now in
    let after = c.close_column.new.cells in
    let size : length after ≡ 4802 = back_length cells c.in-Some.cells.now lent.enough lent.same after (search rules) in
    record {
      charted = λ g m.
          charted_whole c.args.t.now g [] after (drop 4802 cells) m (omega arith) size
          (opened c.args.t.now c.loop-p.p c.in-Some.cells.now c.clear.new.cells c.loop-p.cells after c.clear.ensures (omega arith)
          c.loop-p.invariant
          c.close_column.ensures.closed g m);
      rest = rest_kept cells after size;
    }
