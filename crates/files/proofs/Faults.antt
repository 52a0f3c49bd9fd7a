-- What is refused, told by `?`. Assumes nothing.
use Rattle.std.proofs.Common.{ℕ, ◌<◌, List, Err, refl, inl, inr, ⊎_elim, arith}
use Rattle.grammar.specs.declared.refusals.DraftRefusal.TheVariants.{LongRight}
use Rattle.grammar.specs.Grammar.{Production}
use Rattle.syntax.specs.Syntax.{Symbol, ValidSymbols, production_line}
use Rattle.draft.specs.Calls.{OutOfRange, right_too_long}
use Rattle.draft.specs.Model.{model as grammar_of}
use Rattle.draft.proofs.Causes.{below_two, production_none}
use Rattle.file_model.specs.Files.{Does}
use Rattle.spellings.specs.declared.right.RightFault.{RightFault}
use Rattle.spellings.specs.declared.right.RightFault.TheVariants.{Undeclared, Long}
use Rattle.spellings.specs.Faults.{refusal}
use Rattle.spellings.specs.Model.{words}
use Rattle.spellings.specs.Reading.{Gathers}
use Rattle.spellings.proofs.Gathering.{right_in_range}
use Rattle.spellings.proofs.Written.{few_words}
use Rattle.files.specs.declared.spelled.SpelledDraft.{SpelledDraft}
use Rattle.files.specs.Model.{model}

-- a production line whose right side is at fault
pub line_at_fault :
    (s : SpelledDraft) (ss : List Symbol) (left price : ℕ) (fault : RightFault) →
    left < 16 →
    ValidSymbols ss →
    Gathers (words s.spellings) ss (Err fault) →
    Does (model s) (production_line left ss price) (Err (refusal fault)) (model s)
line_at_fault s ss left price Undeclared l v g = inl (g, refl, refl)
line_at_fault s ss left price Long l v o =
    let ws = words s.spellings in
    let p : Production = record { left = left; right = o.0; price = price } in
    let range : ¬ OutOfRange p = λ h. ⊎_elim (λ k. omega arith) (λ k. let z = right_in_range ws (few_words s.spellings) ss o.0 v o.1 k.0 k.1 in omega (arith, k.2)) h in
    inr (o.0, Err LongRight, o.1, (right_too_long o.2, production_none (grammar_of s.draft) p 2 (below_two (grammar_of s.draft) p range), refl), refl, refl)
