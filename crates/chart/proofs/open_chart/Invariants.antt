use Rattle.chart.specs.Columns.{Started}
use Rattle.chart.proofs.open_chart.Given as goal

abbrev pub invariant-loop-p : goal.invariant-loop-p
invariant-loop-p l = Started l.t l.p l.initial.cells l.cells
