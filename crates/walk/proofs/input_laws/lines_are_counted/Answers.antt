use Rattle.walk.proofs.Counting.{counts_lines}
use Rattle.walk.proofs.input_laws.lines_are_counted.Goals as goal

pub returns : goal.returns
returns c = counts_lines
