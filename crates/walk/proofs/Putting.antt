-- What putting a line keeps of a reading. Assumes nothing.
use Rattle.std.proofs.Common.{◌≡◌, ℕ, List, length, Ok, Err, Result, refl, ◌∙◌, arith}
use Rattle.syntax.specs.Syntax.{Spelling}
use Rattle.grammar.specs.declared.refusals.ReadingRefusal.{ReadingRefusal}
use Rattle.draft.specs.declared.sealed.Grammar.{Grammar as Sealed}
use Rattle.reading.specs.declared.reading.Reading.{Reading}
use Rattle.reading.specs.Readings.{Long, Marks, Put, cells}
use Rattle.lines.specs.declared.fault.LineFault.{LineFault}
use Rattle.lines.specs.Cuts.{Placed}
use Rattle.lines.specs.Lines.{PutsWord, unknown, refused, taken, PutsWords, all_put, one_refused, one_put, PutsLine, too_long, by_words}
use Rattle.walk.specs.declared.scores.Scores.{Scores}
use Rattle.walk.specs.Verdicts.{WordsJudged, Opens, LineJudged, word_refused, words_put}

-- the same grammar, as many cells, and a chart that marked the words still does
record Stays (r q : Reading) : Type 0 where
  grammar : q.grammar.now ≡ r.grammar.now
  size : length (cells q) ≡ length (cells r)
  marks : Long (cells r) → Marks r → Marks q

stays_same : (r : Reading) → Stays r r
stays_same r = record { grammar = refl; size = refl; marks = λ l m. m }

stays_then : {r q t : Reading} → Stays r q → Stays q t → Stays r t
stays_then a b =
    record { grammar = b.grammar ∙ a.grammar; size = b.size ∙ a.size; marks = λ l m. b.marks (let e = a.size in omega arith) (a.marks l m) }

put_stays : {r q : Reading} {kind : ℕ} {a : Result ℕ ReadingRefusal} → Put r kind a q → Stays r q
put_stays p = record { grammar = p.kept.grammar; size = p.kept.size; marks = p.marks }

word_stays : {ss : List Spelling} {r q : Reading} {w : Placed} {a : Result (Unit {0}) LineFault} → PutsWord ss r w a q → Stays r q
word_stays (unknown n) = stays_same _
word_stays (refused k p) = put_stays p
word_stays (taken k p) = put_stays p

words_stay : {ss : List Spelling} {r q : Reading} {ws : List Placed} {a : Result ℕ LineFault} → PutsWords ss r ws a q → Stays r q
words_stay all_put = stays_same _
words_stay (one_refused p) = word_stays p
words_stay (one_put p h) = stays_then (word_stays p) (words_stay h)

line_stays : {ss : List Spelling} {line : List ℕ} {r q : Reading} {a : Result ℕ LineFault} → PutsLine ss line r a q → Stays r q
line_stays (too_long l) = stays_same _
line_stays (by_words l cut h) = words_stay h

module _ (g : Sealed) (ss : List Spelling) (chart line : List ℕ) (r q : Reading) (o : Opens g chart r) where
  -- the words of the line are put
  pub judged_put :
      (n : ℕ) (v : Result Scores LineFault) →
      PutsLine ss line r (Ok n) q →
      ((Long (cells q) → Marks q) → WordsJudged q (length line) v) →
      LineJudged g ss chart line v
  judged_put n v p h =
      let s = line_stays p in
      let size = s.size in
      let opened = o.opened.size in
      words_put n o p (s.grammar ∙ o.grammar) (h (λ l. s.marks (omega arith) (o.opened.marks (omega arith))))

  -- a word of the line is refused
  pub judged_refused : (fault : LineFault) → PutsLine ss line r (Err fault) q → LineJudged g ss chart line (Err fault)
  judged_refused fault p = word_refused fault o p
