use Rattle.theory.proofs.Live.{live?}
use Rattle.theory.proofs.live_decided.Goals as goal

pub returns : goal.returns
returns c = live?
