use Rattle.score_theory.proofs.SameTotals.{one_total}
use Rattle.score_theory.proofs.one_total.Goals as goal

pub returns : goal.returns
returns g c = one_total _ _
