use Rattle.chart.proofs.Steady.{moves_then}
use Rattle.chart.proofs.Columns.{closes}
use Rattle.chart.proofs.column.closing.close_column.Goals as goal

pub returns-clause-closed : goal.returns-clause-closed
returns-clause-closed c =
    let done = c.step.ensures.done c.loop-column-test.false in
    closes (record { tables = c.args.tables; end = c.args.end; within = c.requires.inside }) c.args.cells.now c.step.new.cells _ (moves_then c.loop-column.invariant.1 c.step.ensures.moved) done.0 done.1
