use Rattle.sameness.proofs.Equivalence.{same_reading}
use Rattle.sameness.proofs.same_reading.Goals as goal

pub returns : goal.returns
returns c = same_reading
