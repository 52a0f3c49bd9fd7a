-- What the program writes. Assumes nothing.
use Rattle.std.specs.Prelude.{◌≡◌, ℕ, min, List, [], ◌∷◌, ◌++◌, codes, decimal, Ok, Err, Option}
use Rattle.std.specs.Io.KnownBytes.{Appends}
use Rattle.file_model.specs.declared.fault.Fault.{Fault}
use Rattle.file_model.specs.Spelled.{Spelled}
use Rattle.reports.specs.declared.summary.Summary.{Summary}
use Rattle.reports.specs.Reports.{OutcomeOf, report, refusal_report}
use Rattle.walk.specs.declared.session.Session.{Session}
use Rattle.walk.specs.declared.scores.LineReport.{LineReport}
use Rattle.walk.specs.Counts.{HasLines}
use Rattle.walk.specs.Sessions.{Starts, TakesAll, written}

-- what is written of the number of lines, which is counted up to 2^64 - 1
abbrev pub count_report : ℕ → List ℕ
count_report n = codes "lines " ++ (decimal (min n 18446744073709551615) ++ 10 ∷ [])

-- what is written of an input by a spelled grammar: the report of each line, and then how many lines it has
pub record LinesOutput (book : Spelled) (text output : List ℕ) : Type 0 where
  pub first : Session
  pub last : Session
  pub reports : List LineReport
  pub lines : ℕ
  pub starts : Starts book first
  pub takes : TakesAll first text reports last
  pub counts : HasLines text lines
  pub is : output ≡ written reports ++ count_report lines

-- what is written of the text of a book and an input: of a book that is refused its refusal; else what it has, and then what is written of
-- the input by it
pub data Output (book input : List ℕ) : List ℕ → Type 0 where
  book_refused : {f : Fault} {s : Spelled} → OutcomeOf book s (Err f) → Output book input (refusal_report f ++ 10 ∷ [])
  book_read :
      {x : Summary} {s : Spelled} {output : List ℕ} →
      OutcomeOf book s (Ok x) →
      LinesOutput s input output →
      Output book input (report x ++ 10 ∷ output)

-- a text of which this holds is written, and nothing else
abbrev pub Writes : (List ℕ → Type 0) → Option (List ℕ) → Option (List ℕ) → Type 0
Writes Holds old new = (bytes : List ℕ) × Holds bytes × Appends old new bytes
