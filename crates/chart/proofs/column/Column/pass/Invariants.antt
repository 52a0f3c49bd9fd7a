use Rattle.chart.specs.Columns.{Quiet}
use Rattle.chart.proofs.Steady.{Pass}
use Rattle.chart.proofs.column.Column.pass.Given as goal

abbrev pub invariant-loop-k : goal.invariant-loop-k
invariant-loop-k g l = Pass (Quiet (goal.F-post g l.step)) l.self l.k l.initial.cells l.cells l.changed
