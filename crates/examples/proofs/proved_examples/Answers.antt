use Rattle.small_grammars.proofs.Examples.{examples, small_lines}
use Rattle.examples.proofs.Examples.{leading_to_itself_refused}
use Rattle.examples.proofs.proved_examples.Goals as goal

pub returns : goal.returns
returns c = record { small_grammars = examples; small_lines = small_lines; leading_to_itself = leading_to_itself_refused }
