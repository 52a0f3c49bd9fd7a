use Rattle.lines.proofs.Cutting.{one_cut}
use Rattle.lines.proofs.cuts_are_unique.Goals as goal

pub returns : goal.returns
returns c = one_cut
