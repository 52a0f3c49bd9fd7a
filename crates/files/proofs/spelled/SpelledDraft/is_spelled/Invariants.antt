use Rattle.std.proofs.Common.{ℕ, ◌<◌}
use Rattle.grammar.specs.Grammar.{right_at}
use Rattle.files.specs.Model.{model}
use Rattle.spellings.specs.Writing.{AllSpelled}
use Rattle.files.proofs.spelled.SpelledDraft.is_spelled.Given as goal

abbrev pub invariant-loop-production : goal.invariant-loop-production
invariant-loop-production l = (p : ℕ) → p < l.production-index → AllSpelled (model l.self).spellings (right_at (model l.self).draft.productions p)
