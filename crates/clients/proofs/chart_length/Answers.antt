use Rattle.std.proofs.Common.{length, ap, ◌∙◌}
use Rattle.clients.proofs.chart_length.Goals as goal

pub returns : goal.returns
returns c = ap length c.end-chart.ensures.same ∙ c.put.ensures.kept.size ∙ c.open-reading.ensures.opened.size
