-- What putting a line into a reading answers and leaves. Assumes nothing.
use Rattle.std.specs.Prelude.{◌≡◌, ℕ, ◌<◌, ◌≤◌, List, [], ◌∷◌, ◌++◌, map, length, Ok, Err, Result, codes, decimal}
use Rattle.grammar.specs.declared.refusals.ReadingRefusal.{ReadingRefusal}
use Rattle.grammar.specs.declared.refusals.LineRefusal.TheVariants.{UnknownWord}
use Rattle.grammar.specs.declared.refusals.Refusal.{Refusal}
use Rattle.grammar.specs.declared.refusals.Refusal.TheVariants.{Reading as Layer, Line}
use Rattle.grammar.specs.Refusals.{number}
use Rattle.syntax.specs.Syntax.{Spelling}
use Rattle.reading.specs.declared.reading.Reading.{Reading}
use Rattle.reading.specs.Readings.{words, cells, Long, Marks, Put}
use Rattle.agreement.specs.declared.call.Call.TheVariants.{Put as put_call}
use Rattle.agreement.specs.Histories.{Plain, PlainlyPlayed}
use Rattle.lines.specs.declared.fault.LineFault.{LineFault}
use Rattle.lines.specs.Cuts.{Word, Placed, Cuts}
use Rattle.lines.specs.Kinds.{KindOf, NoKind}

-- a refusal at a place
abbrev pub fault : Refusal → ℕ → LineFault
fault refusal place = record { refusal = refusal; place = place }

-- what is printed of a line that is refused
abbrev pub fault_report : LineFault → List ℕ
fault_report f = codes "refused " ++ (decimal (number f.refusal) ++ (codes " at " ++ decimal f.place))

-- a word is put by its kind: it is unknown where it has none, before the reading is asked, and else the reading answers; a refusal
-- has the word's place
pub data PutsWord (ss : List Spelling) (r : Reading) : Placed → Result (Unit {0}) LineFault → Reading → Type 0 where
  unknown : {w : Word} {at : ℕ} → NoKind ss w → PutsWord ss r (w, at) (Err (fault (Line UnknownWord) at)) r
  refused : {w : Word} {at kind : ℕ} {e : ReadingRefusal} {q : Reading} → KindOf ss w kind → Put r kind (Err e) q → PutsWord ss r (w, at) (Err (fault (Layer e) at)) q
  taken : {w : Word} {at kind n : ℕ} {q : Reading} → KindOf ss w kind → Put r kind (Ok n) q → PutsWord ss r (w, at) (Ok tt) q

-- words are put one after the other up to the first refusal, which is the answer; else it is how many words stand
pub data PutsWords (ss : List Spelling) : Reading → List Placed → Result ℕ LineFault → Reading → Type 0 where
  all_put : {r : Reading} → PutsWords ss r [] (Ok (length (words r))) r
  one_refused : {r q : Reading} {w : Placed} {ws : List Placed} {e : LineFault} → PutsWord ss r w (Err e) q → PutsWords ss r (w ∷ ws) (Err e) q
  one_put : {r q t : Reading} {w : Placed} {ws : List Placed} {a : Result ℕ LineFault} → PutsWord ss r w (Ok tt) q → PutsWords ss q ws a t → PutsWords ss r (w ∷ ws) a t

-- a line above 16384 bytes is refused before its words, at place 16384; else its words are put
pub data PutsLine (ss : List Spelling) (line : List ℕ) (r : Reading) : Result ℕ LineFault → Reading → Type 0 where
  too_long : 16384 < length line → PutsLine ss line r (Err (fault (Line UnknownWord) 16384)) r
  by_words : {ws : List Placed} {a : Result ℕ LineFault} {q : Reading} → length line ≤ 16384 → Cuts 0 line ws → PutsWords ss r ws a q → PutsLine ss line r a q

-- some kinds were put, each with its answer, and no other call was made
abbrev pub PutsKinds : Reading → Reading → Type 0
PutsKinds r q = (kinds : List ℕ) × (xs : List Plain) × PlainlyPlayed r (map put_call kinds) xs q

-- the kinds of words, in their order
pub data KindsOf (ss : List Spelling) : List Placed → List ℕ → Type 0 where
  no_kinds : KindsOf ss [] []
  one_kind : {w : Word} {at kind : ℕ} {ws : List Placed} {kinds : List ℕ} → KindOf ss w kind → KindsOf ss ws kinds → KindsOf ss ((w, at) ∷ ws) (kind ∷ kinds)

-- the words that were not put: none, or the refused one and those behind it
abbrev pub LeftOver : Result ℕ LineFault → List Placed → Type 0
LeftOver (Ok n) ws = ws ≡ []
LeftOver (Err e) ws = (w : Word) × (rest : List Placed) × (ws ≡ (w, e.place) ∷ rest)

-- behind the words that stood, just the kinds of the words before the refused one stand, or of all words where none is refused
pub record Leaves (ss : List Spelling) (ws : List Placed) (r : Reading) (a : Result ℕ LineFault) (q : Reading) : Type 0 where
  pub put : List Placed
  pub over : List Placed
  pub kinds : List ℕ
  pub split : ws ≡ put ++ over
  pub of_put : KindsOf ss put kinds
  pub left : LeftOver a over
  pub stand : words q ≡ words r ++ kinds

-- on a chart that marks the standing words, a line that is not too long leaves that of its words
abbrev pub LeavesLine : List Spelling → List ℕ → Reading → Result ℕ LineFault → Reading → Type 0
LeavesLine ss line r a q = length line ≤ 16384 → Long (cells r) → Marks r → (ws : List Placed) × Cuts 0 line ws × Leaves ss ws r a q
