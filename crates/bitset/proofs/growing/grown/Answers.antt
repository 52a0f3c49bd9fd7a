use Rattle.std.proofs.Common.{arith}
use Rattle.bitset.specs.Steps.{reached_none}
use Rattle.bitset.proofs.growing.grown.Goals as goal

pub loop-set-init : goal.loop-set-init
loop-set-init g c = (omega arith, reached_none)
