use Rattle.walk.proofs.Cutting.{judged_by_kept}
use Rattle.walk.proofs.input_laws.kept_bytes_suffice.Goals as goal

pub returns : goal.returns
returns c = judged_by_kept
