use Rattle.std.proofs.Common.{arith}
use Rattle.chart.proofs.Steady.{started}
use Rattle.chart.proofs.add_start.Goals as goal

pub returns-then-contains-clause-moved : goal.returns-then-contains-clause-moved
returns-then-contains-clause-moved c =
    started c.args.t.now c.args.p c.args.cells.now _ _ (rw c.from.ensures at c.add.ensures) (omega arith) (c.contains.ensures.yes c.if-contains.true)
