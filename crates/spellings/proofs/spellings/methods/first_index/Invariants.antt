use Rattle.std.proofs.Common.{◌≡◌, ℕ, ◌<◌, slice_index_or}
use Rattle.syntax.specs.Model.{spelling}
use Rattle.syntax.specs.declared.spelling.Spelling.{Spelling}
use Rattle.spellings.proofs.spellings.methods.first_index.Given as goal

abbrev pub invariant-loop-i : goal.invariant-loop-i
invariant-loop-i l = (k : ℕ) (d : Spelling) → k < l.i → ¬ (spelling (slice_index_or l.words k d) ≡ spelling l.word)
