use Rattle.sameness.proofs.Scoring.{same_scores}
use Rattle.sameness.proofs.same_scores.Goals as goal

pub returns : goal.returns
returns g c = same_scores _
