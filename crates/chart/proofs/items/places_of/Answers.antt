use Rattle.std.proofs.Common.{rules}
use Rattle.chart.proofs.Halves.{is_set}
use Rattle.chart.proofs.items.places_of.Goals as goal

pub returns : goal.returns
returns c = rw (c.from.ensures, c.from-2.ensures) (is_set c.args.cells.now c.args.x (search rules) (search rules))
