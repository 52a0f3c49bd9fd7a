use Rattle.theory.proofs.Exact.{viable_kinds}
use Rattle.theory.proofs.viable_kinds.Goals as goal

pub returns : goal.returns
returns c = viable_kinds
