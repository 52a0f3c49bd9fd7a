use Rattle.sameness.proofs.Equivalence.{sameness}
use Rattle.sameness.proofs.sameness_holds.Goals as goal

pub returns : goal.returns
returns c = sameness
