use Rattle.std.proofs.Common.{◌≡◌, length, take}
use Rattle.engine.specs.Answers.{written}
use Rattle.engine.proofs.write_records.Given as goal

abbrev pub invariant-loop-i : goal.invariant-loop-i
invariant-loop-i l = (l.output ≡ written (take l.i l.records) l.initial.output) × (length l.output ≡ length l.initial.output)
