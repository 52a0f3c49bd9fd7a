use Rattle.lines.proofs.Kinding.{not_declared}
use Rattle.lines.proofs.kinds.literal_kind.Goals as goal

pub returns-in_err-literal : goal.returns-in_err-literal
returns-in_err-literal c = rw c.from_residual.ensures (not_declared c.args.spellings.now c.args.bytes.now c.in_err-literal.ensures)
