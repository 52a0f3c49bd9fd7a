use Rattle.std.proofs.Common.{map, take, Ok}
use Rattle.syntax.specs.Writing.{Writes}
use Rattle.file_model.specs.Files.{rendered, rule_form}
use Rattle.files.specs.Model.{model}
use Rattle.files.proofs.spelled.SpelledDraft.put_rules.Given as goal

abbrev pub invariant-loop-rule : goal.invariant-loop-rule
invariant-loop-rule l = Writes l.initial.out (rendered (map rule_form (take l.rule-index (model l.self).draft.rules))) (Ok tt) l.out
