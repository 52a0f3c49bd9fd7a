use Rattle.score_theory.proofs.Weighing.{scored}
use Rattle.score_theory.proofs.scored.Goals as goal

pub returns : goal.returns
returns g c = scored _ g.met.S.Semiring.laws
