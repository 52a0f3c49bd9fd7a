use Rattle.std.proofs.Common.{Bool}
use Rattle.chart.specs.Cells.{room}
use Rattle.chart.specs.Columns.{Moves}
use Rattle.chart.proofs.column.closing.close_column.Given as goal

abbrev pub invariant-loop-column : goal.invariant-loop-column
invariant-loop-column l = (r : Bool) × Moves l.tables l.end l.initial.cells l.cells r

abbrev pub decreases-loop-column : goal.decreases-loop-column
decreases-loop-column l = room l.cells
