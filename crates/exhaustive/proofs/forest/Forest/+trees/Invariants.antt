use Rattle.std.proofs.Common.{◌+◌, ◌*◌}
use Rattle.exhaustive.proofs.forest.Forest.+trees.Given as goal

abbrev pub decreases-trees_from : goal.decreases-trees_from
decreases-trees_from l = 4 * l.steps

abbrev pub decreases-trees_of : goal.decreases-trees_of
decreases-trees_of l = 4 * l.steps + 1

abbrev pub decreases-trees_of_each : goal.decreases-trees_of_each
decreases-trees_of_each l = 4 * l.steps + 2

abbrev pub decreases-trees_split : goal.decreases-trees_split
decreases-trees_split l = 4 * l.steps + 3
