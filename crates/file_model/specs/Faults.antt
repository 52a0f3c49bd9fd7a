-- What is printed of a text that is no grammar file. Assumes nothing.
use Rattle.std.specs.Prelude.{ℕ, List, ◌++◌, codes, decimal}
use Rattle.grammar.specs.Refusals.{number}
use Rattle.file_model.specs.declared.fault.Fault.{Fault}

-- the line that is printed of a text that is refused
abbrev pub refusal_report : Fault → List ℕ
refusal_report f = codes "book refused " ++ (decimal (number f.refusal) ++ (codes " line " ++ decimal f.line))
