-- The whole input, taken part by part. Assumes nothing.
use Rattle.std.proofs.Common.{◌≡◌, ℕ, ◌<◌, min, List, ◌∷◌, [], ◌++◌, length, take, Ok, Result, None, Some, Option, append_assoc, sym, refl, ◌∙◌, subst, arith}
use Rattle.std.specs.Prelude.{codes, decimal, IfSome}
use Rattle.std.specs.Io.KnownBytes.{Appends, Consumes, Keeps, ReadConsumes, IsAtEnd}
use Rattle.file_model.specs.Spelled.{Spelled}
use Rattle.files.specs.declared.spelled.SpelledDraft.{SpelledDraft}
use Rattle.files.specs.Model.{model}
use Rattle.reports.specs.Reports.{report, refusal_report, Printed}
use Rattle.walk.specs.declared.session.Session.{Session}
use Rattle.walk.specs.declared.scores.LineReport.{LineReport}
use Rattle.walk.specs.Sessions.{Starts, TakesPart, Finished, TookAll, written}
use Rattle.walk.specs.Outputs.{count_report, LinesOutput, Output, book_refused, book_read, Writes}
use Rattle.walk.proofs.Counting.{counted}
use Rattle.walk.proofs.Writing.{both_appended, reports_appended}

-- what a read gives
pub read_one :
    {E : Type 0} (a b : Option (List ℕ)) (r : Result ℕ E) (n : ℕ) (bytes : List ℕ) →
    Ok n ≡ r →
    ReadConsumes a b r bytes →
    Consumes a b (take n bytes) × (n ≡ 0 → 0 < length bytes → IsAtEnd b)
read_one a b r n bytes e h = subst (λ x. ReadConsumes a b x bytes) (sym e) h

-- a part and then the end
pub all_taken :
    (s t u : Session) (text : List ℕ) (rs : List LineReport) (a b c : Option (List ℕ)) →
    TakesPart s text rs t →
    Appends a b (written rs) →
    Finished t u b c →
    TookAll s text u a c
all_taken s t u text rs a b c h out (qs, end, more) =
    (rs ++ qs, record { middle = t; before = rs; last = qs; part = h; end = end; reports = refl }, reports_appended a b c rs qs out more)

-- the whole input, where it is known, and how many lines it has
pub judged :
    (book : Spelled) (s t : Session) (input : Option (List ℕ)) (n : ℕ) (a b c : Option (List ℕ)) →
    Starts book s →
    IfSome input (λ text. TookAll s text t a b) →
    n ≡ t.count →
    Appends b c (codes "lines " ++ (decimal n ++ 10 ∷ [])) →
    IfSome input (λ text. Writes (LinesOutput book text) a c)
judged book s t None n a b c start took e more = tt
judged book s t (Some text) n a b c start (rs, h, out) e more =
    let k = counted start.fresh (omega (arith, start.none)) h.part h.end in
    let same : n ≡ min k.0 18446744073709551615 = omega (arith, e, k.2, start.none) in
    let last = subst (λ m. Appends b c (codes "lines " ++ (decimal m ++ 10 ∷ []))) same more in (
      written rs ++ count_report k.0,
      record { first = s; last = t; reports = rs; lines = k.0; starts = start; takes = h; counts = k.1; is = refl },
      both_appended a b c (written rs) (count_report k.0) out last,
    )

-- what is appended stays so where the bytes are kept
kept_appended : (a b c : Option (List ℕ)) (bytes : List ℕ) → Appends a b bytes → Keeps b c → Appends a c bytes
kept_appended None b c bytes x y = tt
kept_appended (Some xs) None c bytes x y = absurd x
kept_appended (Some xs) (Some ys) None bytes x y = absurd y
kept_appended (Some xs) (Some ys) (Some zs) bytes x y = y ∙ x

-- what is printed of a book that is read stays so
pub kept_printed :
    (text : List ℕ) (book : SpelledDraft) (a b c : Option (List ℕ)) →
    Printed text (Some book) a b →
    Keeps b c →
    Printed text (Some book) a c
kept_printed text book a b c (x, reads, out) kept = (x, reads, kept_appended a b c (report x ++ 10 ∷ []) out kept)

-- a book that is read, and then the input
pub walked :
    (text : List ℕ) (input : Option (List ℕ)) (book : SpelledDraft) (a b c : Option (List ℕ)) →
    Printed text (Some book) a b →
    IfSome input (λ lines. Writes (LinesOutput (model book) lines) b c) →
    IfSome input (λ lines. Writes (Output text lines) a c)
walked text None book a b c p h = tt
walked text (Some lines) book a b c (x, reads, out) (output, judges, more) = (
  report x ++ 10 ∷ output,
  book_read reads judges,
  subst (Appends a c) (append_assoc (report x) (10 ∷ []) output) (both_appended a b c (report x ++ 10 ∷ []) output out more),
)

-- a book that is refused
pub refused :
    (text : List ℕ) (input : Option (List ℕ)) (a b : Option (List ℕ)) → Printed text None a b → IfSome input (λ lines. Writes (Output text lines) a b)
refused text None a b p = tt
refused text (Some lines) a b (f, s, reads, out) = (refusal_report f ++ 10 ∷ [], book_refused reads, out)
