use Rattle.small_grammars.proofs.Examples.{small_lines}
use Rattle.small_grammars.proofs.small_lines.Goals as goal

pub returns : goal.returns
returns c = small_lines
