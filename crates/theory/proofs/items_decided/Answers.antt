use Rattle.theory.proofs.Items.{item?}
use Rattle.theory.proofs.items_decided.Goals as goal

pub returns : goal.returns
returns c = item?
