-- What a session does with lines. Assumes nothing.
use Rattle.std.specs.Prelude.{◌≡◌, ℕ, ◌+◌, min, ◌⊎◌, List, [], ◌∷◌, ◌++◌, flat_map, Option}
use Rattle.std.specs.Io.KnownBytes.{Appends}
use Rattle.syntax.specs.Free.{FreeOf}
use Rattle.file_model.specs.Files.{LineOf}
use Rattle.draft.specs.Sealed.{sealed_model}
use Rattle.file_model.specs.Spelled.{Spelled}
use Rattle.spellings.specs.Model.{words}
use Rattle.walk.specs.declared.session.Session.{Session}
use Rattle.walk.specs.declared.scores.LineReport.{LineReport}
use Rattle.walk.specs.Buffers.{held, kept}
use Rattle.walk.specs.Counts.{HasLines}
use Rattle.walk.specs.Verdicts.{LineJudged, line_report}

-- a session by a spelled grammar, with no lines and no bytes of one
pub record Starts (book : Spelled) (s : Session) : Type 0 where
  pub grammar : sealed_model s.grammar ≡ book.draft
  pub spellings : words s.spellings ≡ book.spellings
  pub none : s.count ≡ 0
  pub fresh : held s.buffer ≡ []

-- the line is judged by the grammar and the spellings, which stay; lines are counted up to 2^64 - 1, and the next one has no bytes yet
pub record EndsLine (before : Session) (r : LineReport) (after : Session) : Type 0 where
  pub judged : LineJudged before.grammar (words before.spellings) before.chart (held before.buffer) r.verdict
  pub line : r.line ≡ after.count
  pub count : after.count ≡ min (before.count + 1) 18446744073709551615
  pub grammar : after.grammar ≡ before.grammar
  pub spellings : after.spellings ≡ before.spellings
  pub fresh : held after.buffer ≡ []

-- a line ends, and its report is written with its end, byte 10, and nothing else
abbrev pub Reported : Session → Session → Option (List ℕ) → Option (List ℕ) → Type 0
Reported s t old new = (r : LineReport) × EndsLine s r t × Appends old new (line_report r ++ 10 ∷ [])

-- more bytes of the line that is being read come, and nothing else changes
pub record Gathers (before : Session) (more : List ℕ) (after : Session) : Type 0 where
  pub bytes : held after.buffer ≡ kept (held before.buffer ++ more)
  pub grammar : after.grammar ≡ before.grammar
  pub spellings : after.spellings ≡ before.spellings
  pub chart : after.chart ≡ before.chart
  pub count : after.count ≡ before.count

-- a part of the input is taken: at each line feed, byte 10, a line ends and is reported, and what is behind the last one is gathered
pub data TakesPart : Session → List ℕ → List LineReport → Session → Type 0 where
  gathered : {s t : Session} {part : List ℕ} → FreeOf 10 part → Gathers s part t → TakesPart s part [] t
  line_ended :
      {s t u v : Session} {part line rest : List ℕ} {r : LineReport} {rs : List LineReport} →
      LineOf part line rest →
      Gathers s line t →
      EndsLine t r u →
      TakesPart u rest rs v →
      TakesPart s part (r ∷ rs) v

-- what is written of reports: the line that is printed of each, with its end, byte 10
abbrev pub written : List LineReport → List ℕ
written rs = flat_map (λ r. line_report r ++ 10 ∷ []) rs

-- all of the part is taken, and its reports are written, and nothing else
abbrev pub Took : Session → List ℕ → Session → Option (List ℕ) → Option (List ℕ) → Type 0
Took s part t old new = (rs : List LineReport) × TakesPart s part rs t × Appends old new (written rs)

-- the input ends: where bytes are left they are a line, which is reported; else nothing changes
abbrev pub Finishes : Session → List LineReport → Session → Type 0
Finishes s rs t = ((held s.buffer ≡ []) × (rs ≡ []) × (t ≡ s)) ⊎ ((¬ (held s.buffer ≡ [])) × ((r : LineReport) × (rs ≡ r ∷ []) × EndsLine s r t))

-- the input ends, and its last report is written, and nothing else
abbrev pub Finished : Session → Session → Option (List ℕ) → Option (List ℕ) → Type 0
Finished s t old new = (rs : List LineReport) × Finishes s rs t × Appends old new (written rs)

-- the whole input is taken: a part, and the end
pub record TakesAll (s : Session) (text : List ℕ) (rs : List LineReport) (t : Session) : Type 0 where
  pub middle : Session
  pub before : List LineReport
  pub last : List LineReport
  pub part : TakesPart s text before middle
  pub end : Finishes middle last t
  pub reports : rs ≡ before ++ last

-- all of the input is taken, and its reports are written, and nothing else
abbrev pub TookAll : Session → List ℕ → Session → Option (List ℕ) → Option (List ℕ) → Type 0
TookAll s text t old new = (rs : List LineReport) × TakesAll s text rs t × Appends old new (written rs)

-- where the input is cut into parts makes no difference: what two parts give one after the other, they give joined
abbrev pub PartsJoin : Type 0
PartsJoin =
    (s t u : Session) (part more : List ℕ) (rs qs : List LineReport) → TakesPart s part rs t → TakesPart t more qs u → TakesPart s (part ++ more) (rs ++ qs) u

-- a session with no lines and no bytes of one that takes a whole input counts exactly its lines, up to 2^64 - 1
abbrev pub CountsLines : Type 0
CountsLines =
    (s t : Session) (text : List ℕ) (rs : List LineReport) (n : ℕ) →
    s.count ≡ 0 →
    held s.buffer ≡ [] →
    TakesAll s text rs t →
    HasLines text n →
    t.count ≡ min n 18446744073709551615
