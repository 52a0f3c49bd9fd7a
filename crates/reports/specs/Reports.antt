-- What the programs say of a book. Assumes nothing.
use Rattle.std.specs.Prelude.{◌≡◌, ℕ, List, [], ◌∷◌, ◌++◌, length, Ok, Err, Result, Some, None, Option, codes, decimal}
use Rattle.std.specs.Io.KnownBytes.{Appends}
use Rattle.file_model.specs.declared.fault.Fault.{Fault}
use Rattle.file_model.specs.Spelled.{Spelled}
use Rattle.file_model.specs.Files.{Reads}
pub use Rattle.file_model.specs.Faults.{refusal_report}
use Rattle.files.specs.declared.spelled.SpelledDraft.{SpelledDraft}
use Rattle.files.specs.Model.{model}
use Rattle.reports.specs.declared.summary.Summary.{Summary}

-- reading the text as a grammar file leaves the spelled grammar, with so many productions and rules, or refuses it with this fault
abbrev pub OutcomeOf : List ℕ → Spelled → Result Summary Fault → Type 0
OutcomeOf text s (Ok x) = Reads text (Ok x.version) s × (x.productions ≡ length s.draft.productions) × (x.rules ≡ length s.draft.rules)
OutcomeOf text s (Err f) = Reads text (Err f) s

-- the line that is printed of a book that is read
abbrev pub report : Summary → List ℕ
report s = codes "RBK " ++ (decimal s.version ++ (codes " productions " ++ (decimal s.productions ++ (codes " rules " ++ decimal s.rules))))

-- what is opened of a text: the book that it is read as, or none where it is refused; what it is is written with its end, byte 10, and
-- nothing else
abbrev pub Printed : List ℕ → Option SpelledDraft → Option (List ℕ) → Option (List ℕ) → Type 0
Printed text (Some book) old new = (x : Summary) × OutcomeOf text (model book) (Ok x) × Appends old new (report x ++ 10 ∷ [])
Printed text None old new = (f : Fault) × (s : Spelled) × OutcomeOf text s (Err f) × Appends old new (refusal_report f ++ 10 ∷ [])
