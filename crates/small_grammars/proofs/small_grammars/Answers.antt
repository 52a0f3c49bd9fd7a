use Rattle.small_grammars.proofs.Examples.{examples}
use Rattle.small_grammars.proofs.small_grammars.Goals as goal

pub returns : goal.returns
returns c = examples
