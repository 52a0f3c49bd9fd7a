use Rattle.std.proofs.Common.{List, length}
use Rattle.syntax.specs.Syntax.{Symbol}
use Rattle.spellings.specs.Model.{words}
use Rattle.spellings.specs.Reading.{Gathers}
use Rattle.file_lines.proofs.RightSides.{Progress}
use Rattle.spellings.proofs.reading.read_right.Given as goal

abbrev pub invariant-loop-rest : goal.invariant-loop-rest
invariant-loop-rest l = (ss : List Symbol) × Progress l.text l.rest ss × Gathers (words l.spellings) ss l.right

abbrev pub decreases-loop-rest : goal.decreases-loop-rest
decreases-loop-rest l = length l.rest
