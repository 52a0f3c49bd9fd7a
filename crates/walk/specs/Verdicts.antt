-- What the program says of a line of words. Assumes nothing.
use Rattle.std.specs.Prelude.{◌≡◌, ℕ, ◌+◌, ◌*◌, ◌<◌, List, ◌++◌, length, Ok, Err, codes, decimal, Result}
use Rattle.grammar.specs.declared.refusals.ReadingRefusal.{ReadingRefusal}
use Rattle.grammar.specs.declared.refusals.ReadingRefusal.TheVariants.{NoSentence, ShortChart, ShortTable}
use Rattle.grammar.specs.declared.refusals.Refusal.TheVariants.{Reading as Layer}
use Rattle.grammar.specs.Grammar.{places}
use Rattle.theory.specs.Claims.{Sentence}
use Rattle.scales.specs.ThreeScales.{count, price}
use Rattle.scales.specs.declared.values.Count.{Count}
use Rattle.scales.specs.declared.values.Price.{Price}
use Rattle.score_theory.specs.Scores.{Score}
use Rattle.draft.specs.declared.sealed.Grammar.{Grammar as Sealed}
use Rattle.syntax.specs.Syntax.{Spelling}
use Rattle.reading.specs.declared.reading.Reading.{Reading}
use Rattle.reading.specs.Readings.{Long, Opened, ScoreRefused, words, cells, grammar_of}
use Rattle.lines.specs.declared.fault.LineFault.{LineFault}
use Rattle.lines.specs.Lines.{PutsLine, fault, fault_report}
use Rattle.walk.specs.Buffers.{kept}
use Rattle.walk.specs.declared.scores.Scores.{Scores}
use Rattle.walk.specs.declared.scores.LineReport.{LineReport}

-- a table of 8,000 entries has too few for the places of the productions and the spans of the words
abbrev pub TablesShort : Reading → Type 0
TablesShort r = 8000 < places (grammar_of r).productions * ((length (words r) + 1) * (length (words r) + 1))

-- the count and the smallest price of the trees of the words that stand, or why a score has none on tables of 8,000 entries
abbrev pub BothScores : Reading → Result Scores ReadingRefusal → Type 0
BothScores r (Ok s) =
    (c : Count) × (p : Price) × (¬ TablesShort r) × Score count (grammar_of r) (words r) c × Score price (grammar_of r) (words r) p
    × (s.trees ≡ c.value) × (s.price ≡ p.value)
BothScores r (Err e) = ScoreRefused r 8000 (Err e)

-- what the words that stand are, of a line that ends at the place: 14 at 0 on a short chart; else 13 at the end where they are no
-- sentence; else 16 at 0 where the tables are too short; else the count and the smallest price of their trees
pub data WordsJudged (r : Reading) (end : ℕ) : Result Scores LineFault → Type 0 where
  chart_short : (¬ Long (cells r)) → WordsJudged r end (Err (fault (Layer ShortChart) 0))
  no_sentence : Long (cells r) → (¬ Sentence (grammar_of r) (words r)) → WordsJudged r end (Err (fault (Layer NoSentence) end))
  tables_short : Long (cells r) → Sentence (grammar_of r) (words r) → TablesShort r → WordsJudged r end (Err (fault (Layer ShortTable) 0))
  scored :
      {c : Count} {p : Price} →
      Long (cells r) →
      Sentence (grammar_of r) (words r) →
      (¬ TablesShort r) →
      Score count (grammar_of r) (words r) c →
      Score price (grammar_of r) (words r) p →
      WordsJudged r end (Ok (record { trees = c.value; price = p.value }))

-- the reading was opened on the grammar and the chart
pub record Opens (g : Sealed) (chart : List ℕ) (r : Reading) : Type 0 where
  pub opened : Opened chart r
  pub grammar : r.grammar.now ≡ g

-- what a line is, put word by word from an opened reading on: the refusal of a word, or what its words are by the same grammar
pub data LineJudged (g : Sealed) (ss : List Spelling) (chart line : List ℕ) : Result Scores LineFault → Type 0 where
  word_refused :
      {r q : Reading} (f : LineFault) →
      Opens g chart r →
      PutsLine ss line r (Err f) q →
      LineJudged g ss chart line (Err f)
  words_put :
      {r q : Reading} (n : ℕ) {v : Result Scores LineFault} →
      Opens g chart r →
      PutsLine ss line r (Ok n) q →
      q.grammar.now ≡ g →
      WordsJudged q (length line) v →
      LineJudged g ss chart line v

-- what is printed of words with scores
abbrev pub scores_report : Scores → List ℕ
scores_report s = codes "ok trees " ++ (decimal s.trees ++ (codes " price " ++ decimal s.price))

-- what is printed of a line
abbrev pub said : Result Scores LineFault → List ℕ
said (Ok scores) = scores_report scores
said (Err f) = fault_report f

-- the line that is printed, with the number of the line first
abbrev pub line_report : LineReport → List ℕ
line_report r = decimal r.line ++ (codes " " ++ said r.verdict)

-- the bytes that are kept of a line are judged as the whole line is, whatever follows them
abbrev pub JudgedByKept : Type 0
JudgedByKept =
    (g : Sealed) (ss : List Spelling) (chart line : List ℕ) (v : Result Scores LineFault) → LineJudged g ss chart (kept line) v → LineJudged g ss chart line v
