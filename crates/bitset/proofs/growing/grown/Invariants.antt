use Rattle.std.proofs.Common.{◌-◌, ◌^◌, ◌<◌}
use Rattle.bitset.specs.Steps.{Reached, AnyBelow}
use Rattle.bitset.proofs.growing.grown.Given as goal

abbrev pub invariant-loop-set : goal.invariant-loop-set
invariant-loop-set g l = (l.set < 2 ^ 32) × Reached (AnyBelow l.count (goal.F-post g l.step)) l.set

abbrev pub decreases-loop-set : goal.decreases-loop-set
decreases-loop-set g l = 2 ^ 32 - l.set
