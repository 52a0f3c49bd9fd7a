use Rattle.chart.specs.Columns.{Scanned}
use Rattle.chart.proofs.scan.Given as goal

abbrev pub invariant-loop-i : goal.invariant-loop-i
invariant-loop-i l = Scanned l.t l.j l.kind l.i l.initial.cells l.cells
