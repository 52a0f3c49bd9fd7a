use Rattle.std.proofs.Common.{map, take, Ok}
use Rattle.syntax.specs.Writing.{Writes}
use Rattle.file_model.specs.Files.{rendered, production_form}
use Rattle.files.specs.Model.{model}
use Rattle.files.proofs.spelled.SpelledDraft.put_productions.Given as goal

abbrev pub invariant-loop-production : goal.invariant-loop-production
invariant-loop-production l =
    Writes l.initial.out (rendered (map (production_form (model l.self).spellings) (take l.production-index (model l.self).draft.productions))) (Ok tt) l.out
