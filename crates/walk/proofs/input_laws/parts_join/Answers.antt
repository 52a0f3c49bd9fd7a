use Rattle.walk.proofs.Parts.{parts_join}
use Rattle.walk.proofs.input_laws.parts_join.Goals as goal

pub returns : goal.returns
returns c = parts_join
