use Rattle.std.proofs.Common.{arith}
use Rattle.bitset.proofs.Joining.{no_row}
use Rattle.bitset.proofs.rows.Rows.has.Goals as goal

pub returns-else-p-lt32-clause-no : goal.returns-else-p-lt32-clause-no
returns-else-p-lt32-clause-no c past = no_row c.args.self.now.rows c.args.p c.args.q (omega arith)
