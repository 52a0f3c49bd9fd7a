use Rattle.theory.proofs.Conflicts.{conflict?}
use Rattle.theory.proofs.conflicts_decided.Goals as goal

pub returns : goal.returns
returns c = conflict?
