use Rattle.theory.proofs.Extending.{live_roots}
use Rattle.theory.proofs.live_roots.Goals as goal

pub returns : goal.returns
returns c = live_roots
