-- A reading, and what its calls answer and leave. Assumes nothing.
use Rattle.std.specs.Prelude.{◌≡◌, ℕ, ◌+◌, ◌*◌, ◌<◌, ◌≤◌, Bool, true, ◌↔◌, List, [], length, Ok, Err, Result}
use Rattle.grammar.specs.declared.refusals.ReadingRefusal.{ReadingRefusal}
use Rattle.grammar.specs.declared.refusals.ReadingRefusal.TheVariants.{ShortChart}
use Rattle.grammar.specs.declared.refusals.Refusal.TheVariants.{Reading as Layer}
use Rattle.grammar.specs.Grammar.{Grammar, places}
use Rattle.grammar.specs.Bytes.{items}
use Rattle.grammar.specs.Refusals.{number, Answered}
use Rattle.bitset.specs.Bits.{Has}
use Rattle.tables.specs.declared.tables.Tables.{Tables}
use Rattle.theory.specs.Claims.{Sentence, Viable}
use Rattle.scales.specs.Scales.{Scale}
use Rattle.score_theory.specs.Scores.{Score}
use Rattle.listing_theory.specs.declared.record.Record.{Record}
use Rattle.listing.specs.Calls.{Listed as Lists}
use Rattle.score.specs.Filled.{Filled}
use Rattle.chart.specs.Chart.{Charted, RestKept}
use Rattle.draft.specs.Sealed.{sealed_model}
use Rattle.reading.specs.declared.reading.Reading.{Reading}
use Rattle.reading.specs.Calls.{Puts, TakesBack}

-- the words that stand
abbrev pub words : Reading → List ℕ
words r = items r.line

-- the cells of the chart
abbrev pub cells : Reading → List ℕ
cells r = r.chart.now

abbrev pub grammar_of : Reading → Grammar
grammar_of r = sealed_model r.grammar.now

abbrev pub tables_of : Reading → Tables
tables_of r = r.grammar.now.tables

-- the chart is long enough
abbrev pub Long : List ℕ → Type 0
Long cs = 4802 ≤ length cs

-- the chart marks just the items of the standing words
abbrev pub Marks : Reading → Type 0
Marks r = Charted (tables_of r) (grammar_of r) (words r) (cells r)

-- the words and the chart are as they were
pub record Same (before after : Reading) : Type 0 where
  pub words_same : words after ≡ words before
  pub cells_same : cells after ≡ cells before

-- what no call changes: the grammar, the cells lent, and those past the chart
pub record Kept (before after : Reading) : Type 0 where
  pub grammar : after.grammar.now ≡ before.grammar.now
  pub lent : after.chart.ghost_name ≡ before.chart.ghost_name
  pub size : length (cells after) ≡ length (cells before)
  pub rest : RestKept (cells before) (cells after)

abbrev pub Refused : Result ℕ ReadingRefusal → Type 0
Refused (Ok n) = ⊥
Refused (Err e) = Unit {0}

-- a call that changes the words: 14 on a short chart, before all else; on a chart that marks the standing words it answers by the
-- grammar and the words, and the chart marks the words that then stand; a refusal changes nothing
pub record Changes (answers : Result ℕ ReadingRefusal → List ℕ → Type 0) (before : Reading) (r : Result ℕ ReadingRefusal) (after : Reading) : Type 0 where
  pub kept : Kept before after
  pub short : (¬ Long (cells before)) → r ≡ Err ShortChart
  pub answered : Long (cells before) → Marks before → answers r (words after)
  pub marks : Long (cells before) → Marks before → Marks after
  pub refused : Refused r → Same before after

abbrev pub Put : Reading → ℕ → Result ℕ ReadingRefusal → Reading → Type 0
Put before kind = Changes (Puts (grammar_of before) (words before) kind) before

abbrev pub TakenFromEnd : Reading → Result ℕ ReadingRefusal → Reading → Type 0
TakenFromEnd before = Changes (TakesBack (words before)) before

-- whether the words are a sentence, and which kinds may come next: none where 48 words stand
pub record Sees (g : Grammar) (ws : List ℕ) (sentence : Bool) (mask : ℕ) : Type 0 where
  pub whole : (sentence ≡ true) ↔ Sentence g ws
  pub next : (b : ℕ) → b < 32 → Has mask b ↔ ((length ws < 48) × Viable g ws (16 + b))

abbrev pub Looked : Reading → Result (Bool × ℕ) ReadingRefusal → Type 0
Looked r (Ok x) = Long (cells r) × (Marks r → Sees (grammar_of r) (words r) x.0 x.1)
Looked r (Err e) = (¬ Long (cells r)) × (e ≡ ShortChart)

-- a reading that was opened on a chart: no words stand; a chart that is long enough marks their items, a short one is as it was
pub record Opened (chart : List ℕ) (r : Reading) : Type 0 where
  pub none : words r ≡ []
  pub size : length (cells r) ≡ length chart
  pub marks : Long chart → Marks r
  pub short : (¬ Long chart) → cells r ≡ chart
  pub rest : RestKept chart (cells r)

-- the answer to a listing, and what the lent records hold after it: 14 on a short chart, before all else, and nothing is written; on a
-- chart that marks the standing words, the listing of their smallest tree or its refusals
pub record Listed (r : Reading) (before : List Record) (a : Result ℕ ReadingRefusal) (after : List Record) : Type 0 where
  pub size : length after ≡ length before
  pub short : (¬ Long (cells r)) → (a ≡ Err ShortChart) × (after ≡ before)
  pub listed : Long (cells r) → Marks r → Lists (grammar_of r) (words r) before a after

-- why there is no score
pub data ScoreCause (r : Reading) (entries : ℕ) : ℕ → Type 0 where
  chart_too_short : (¬ Long (cells r)) → ScoreCause r entries 14
  table_too_short : entries < places (grammar_of r).productions * ((length (words r) + 1) * (length (words r) + 1)) → ScoreCause r entries 16

-- an answer without its value
abbrev pub without_value : {V : Type 0} → Result V ReadingRefusal → Result (Unit {0}) ReadingRefusal
without_value (Ok v) = Ok tt
without_value (Err e) = Err e

-- which refusal a score gives on a table of so many entries, on whatever scale
abbrev pub ScoreRefused : Reading → ℕ → Result (Unit {0}) ReadingRefusal → Type 0
ScoreRefused r entries (Ok v) = (n : ℕ) → ¬ ScoreCause r entries n
ScoreRefused r entries (Err e) = ScoreCause r entries (number (Layer e)) × ((n : ℕ) → n < number (Layer e) → ¬ ScoreCause r entries n)

-- the answer to a score on a scale, and what the lent table holds after it
abbrev pub Scored : {S : Type 0} → Scale S → Reading → List S → Result S ReadingRefusal → List S → Type 0
Scored s r before =
    Answered Layer (ScoreCause r (length before)) (λ v after. Score s (grammar_of r) (words r) v × Filled s (grammar_of r) (words r) before after) before
