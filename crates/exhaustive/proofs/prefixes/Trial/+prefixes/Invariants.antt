use Rattle.std.proofs.Common.{◌+◌, ◌*◌}
use Rattle.exhaustive.proofs.prefixes.Trial.+prefixes.Given as goal

abbrev pub decreases-begins_from : goal.decreases-begins_from
decreases-begins_from l = 4 * l.steps

abbrev pub decreases-begins : goal.decreases-begins
decreases-begins l = 4 * l.steps + 1

abbrev pub decreases-begins_any : goal.decreases-begins_any
decreases-begins_any l = 4 * l.steps + 2

abbrev pub decreases-begins_behind : goal.decreases-begins_behind
decreases-begins_behind l = 4 * l.steps + 3
