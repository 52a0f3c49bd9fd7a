use Rattle.std.proofs.Common.{rules}
use Rattle.walk.proofs.Parts.{finished}
use Rattle.walk.proofs.session.Session.finish.Goals as goal

pub returns-in_ok-report_line : goal.returns-in_ok-report_line
returns-in_ok-report_line g c = finished _ _ _ _ (search rules) c.in_ok-report_line.ensures
