use Rattle.std.proofs.Common.{arith}
use Rattle.bitset.proofs.Joining.{joined_all}
use Rattle.bitset.proofs.rows.Rows.join_through.Goals as goal

pub invariant_of-self : goal.invariant_of-self
invariant_of-self c = record { whole = c.loop-row.invariant.0; narrow = c.loop-row.invariant.1 }

pub returns : goal.returns
returns c =
    joined_all c.args.m c.loop-row.row-index c.args.self.now.rows c.loop-row.row-items c.loop-row.invariant.2
    (omega (arith, c.args.self.now.whole, c.loop-row-test.false))
