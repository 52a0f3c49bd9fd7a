use Rattle.std.proofs.Common.{ℕ, ◌+◌, ◌≤◌, length, Result}
use Rattle.file_model.specs.declared.fault.Fault.{Fault}
use Rattle.file_model.specs.Spelled.{Spelled}
use Rattle.file_model.specs.Files.{ReadsFrom}
use Rattle.files.specs.Model.{model}
use Rattle.files.proofs.spelled.SpelledDraft.read_lines.Given as goal

abbrev pub invariant-loop-rest : goal.invariant-loop-rest
invariant-loop-rest l =
    (l.line + length l.rest ≤ length l.text + 3)
    × ((r : Result ℕ Fault) (t : Spelled) → ReadsFrom l.line (model l.self) l.rest r t → ReadsFrom 3 (model l.initial.self) l.text r t)

abbrev pub decreases-loop-rest : goal.decreases-loop-rest
decreases-loop-rest l = length l.rest
