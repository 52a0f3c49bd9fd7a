use Rattle.theory.proofs.Exact.{sentences}
use Rattle.theory.proofs.sentences.Goals as goal

pub returns : goal.returns
returns c = sentences
