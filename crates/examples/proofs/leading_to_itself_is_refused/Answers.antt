use Rattle.examples.proofs.Examples.{leading_to_itself_refused}
use Rattle.examples.proofs.leading_to_itself_is_refused.Goals as goal

pub returns : goal.returns
returns c = leading_to_itself_refused
