use Rattle.sameness.proofs.Equivalence.{more_reading}
use Rattle.sameness.proofs.more_reading.Goals as goal

pub returns : goal.returns
returns c = more_reading
