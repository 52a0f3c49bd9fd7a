-- The histories of readings: the calls from opening on, each with its answer. Assumes nothing.
use Rattle.std.specs.Prelude.{◌≡◌, ℕ, Bool, List, [], ◌∷◌, Result}
use Rattle.grammar.specs.declared.refusals.ReadingRefusal.{ReadingRefusal}
use Rattle.grammar.specs.Grammar.{Grammar}
use Rattle.scales.specs.Scales.{Scale}
use Rattle.listing_theory.specs.declared.record.Record.{Record}
use Rattle.reading.specs.declared.reading.Reading.{Reading}
use Rattle.reading.specs.Calls.{Puts, TakesBack}
use Rattle.reading.specs.Readings.{Long, Opened, Put, TakenFromEnd, Looked, Listed, Scored, ScoreRefused, without_value}
use Rattle.agreement.specs.declared.call.Call.{Call}
use Rattle.agreement.specs.declared.call.Call.TheVariants.{Put as put_call, TakeBack as back_call, Look as look_call, List as list_call, Score as score_call}
use Rattle.agreement.specs.declared.answer.Answer.{Answer}
use Rattle.agreement.specs.declared.answer.Answer.TheVariants.{Put as put_answer, TakenBack as back_answer, Looked as look_answer, Listed as list_answer, Scored as score_answer}

-- an answer whose score, on whatever scale, is left out
abbrev pub Plain : Type 0
Plain = Answer (Unit {0})

-- the answer with the score left out; a refusal stays
abbrev pub plain : {S : Type 0} → Answer S → Plain
plain (put_answer a) = put_answer a
plain (back_answer a) = back_answer a
plain (look_answer a) = look_answer a
plain (list_answer a) = list_answer a
plain (score_answer a) = score_answer (without_value a)

-- one call on a reading, with what is lent to it for listings and scores: its answer, the reading after it, and what is lent then;
-- listings and scores are answered by the two relations
pub data Step {V B : Type 0} (Lists : Reading → B → Result ℕ ReadingRefusal → B → Type 0) (Scores : Reading → B → Result V ReadingRefusal → B → Type 0) : Reading → B → Call → Answer V → Reading → B → Type 0 where
  put_step : {r q : Reading} {b : B} {kind : ℕ} {a : Result ℕ ReadingRefusal} → Put r kind a q → Step Lists Scores r b (put_call kind) (put_answer a) q b
  back_step : {r q : Reading} {b : B} {a : Result ℕ ReadingRefusal} → TakenFromEnd r a q → Step Lists Scores r b back_call (back_answer a) q b
  look_step : {r : Reading} {b : B} {a : Result (Bool × ℕ) ReadingRefusal} → Looked r a → Step Lists Scores r b look_call (look_answer a) r b
  list_step : {r : Reading} {b c : B} {a : Result ℕ ReadingRefusal} → Lists r b a c → Step Lists Scores r b list_call (list_answer a) r c
  score_step : {r : Reading} {b c : B} {a : Result V ReadingRefusal} → Scores r b a c → Step Lists Scores r b score_call (score_answer a) r c

-- calls one after the other, each on the reading that the one before it left
pub data Played {V B : Type 0} (Lists : Reading → B → Result ℕ ReadingRefusal → B → Type 0) (Scores : Reading → B → Result V ReadingRefusal → B → Type 0) : Reading → B → List Call → List (Answer V) → Reading → B → Type 0 where
  played_none : {r : Reading} {b : B} → Played Lists Scores r b [] [] r b
  played_more :
      {r q t : Reading} {b c e : B} {call : Call} {a : Answer V} {cs : List Call} {xs : List (Answer V)} →
      Step Lists Scores r b call a q c →
      Played Lists Scores q c cs xs t e →
      Played Lists Scores r b (call ∷ cs) (a ∷ xs) t e

-- the records and the table that are lent
pub record Lent (S : Type 0) : Type 0 where
  pub records : List Record
  pub table : List S

abbrev pub lent : {S : Type 0} → List Record → List S → Lent S
lent xs ys = record { records = xs; table = ys }

-- a listing into the lent records, and a score on the scale into the lent table
abbrev pub ListsInto : {S : Type 0} → Reading → Lent S → Result ℕ ReadingRefusal → Lent S → Type 0
ListsInto r b a c = Listed r b.records a c.records × (c.table ≡ b.table)

abbrev pub ScoresInto : {S : Type 0} → Scale S → Reading → Lent S → Result S ReadingRefusal → Lent S → Type 0
ScoresInto s r b a c = Scored s r b.table a c.table × (c.records ≡ b.records)

-- a listing into any records, and a score on any scale into any table, whose value is left out
abbrev pub AnyList : Reading → Unit {0} → Result ℕ ReadingRefusal → Unit {0} → Type 0
AnyList r b a c = (before : List Record) × (after : List Record) × Listed r before a after

abbrev pub AnyScore : Reading → Unit {0} → Result (Unit {0}) ReadingRefusal → Unit {0} → Type 0
AnyScore r b a c = (entries : ℕ) × ScoreRefused r entries a

-- the same calls, whatever was lent for them
abbrev pub PlainlyPlayed : Reading → List Call → List Plain → Reading → Type 0
PlainlyPlayed r cs xs q = Played AnyList AnyScore r tt cs xs q tt

-- the calls and answers from the opening of a reading, on a chart that is long enough, to the reading that stands
pub record History (cs : List Call) (xs : List Plain) (r : Reading) : Type 0 where
  pub chart : List ℕ
  pub first : Reading
  pub long : Long chart
  pub opened : Opened chart first
  pub played : PlainlyPlayed first cs xs r

-- the reading has a history
abbrev pub Stands : Reading → Type 0
Stands r = (cs : List Call) × (xs : List Plain) × History cs xs r

-- the answers to what changes the words: puts and takings back
abbrev pub changes : List Plain → List (Result ℕ ReadingRefusal)
changes [] = []
changes (put_answer a ∷ xs) = a ∷ changes xs
changes (back_answer a ∷ xs) = a ∷ changes xs
changes (look_answer a ∷ xs) = changes xs
changes (list_answer a ∷ xs) = changes xs
changes (score_answer a ∷ xs) = changes xs

-- what calls answer where the words ws stand, and the words that then stand, by the grammar and the calls alone
pub data WorksOut (g : Grammar) : List ℕ → List Call → List (Result ℕ ReadingRefusal) → List ℕ → Type 0 where
  no_call : {ws : List ℕ} → WorksOut g ws [] [] ws
  put_first :
      {ws us vs : List ℕ} {kind : ℕ} {a : Result ℕ ReadingRefusal} {cs : List Call} {xs : List (Result ℕ ReadingRefusal)} →
      Puts g ws kind a us →
      WorksOut g us cs xs vs →
      WorksOut g ws (put_call kind ∷ cs) (a ∷ xs) vs
  back_first :
      {ws us vs : List ℕ} {a : Result ℕ ReadingRefusal} {cs : List Call} {xs : List (Result ℕ ReadingRefusal)} →
      TakesBack ws a us →
      WorksOut g us cs xs vs →
      WorksOut g ws (back_call ∷ cs) (a ∷ xs) vs
  look_first : {ws vs : List ℕ} {cs : List Call} {xs : List (Result ℕ ReadingRefusal)} → WorksOut g ws cs xs vs → WorksOut g ws (look_call ∷ cs) xs vs
  list_first : {ws vs : List ℕ} {cs : List Call} {xs : List (Result ℕ ReadingRefusal)} → WorksOut g ws cs xs vs → WorksOut g ws (list_call ∷ cs) xs vs
  score_first : {ws vs : List ℕ} {cs : List Call} {xs : List (Result ℕ ReadingRefusal)} → WorksOut g ws cs xs vs → WorksOut g ws (score_call ∷ cs) xs vs

-- from opening on, where no words stand
abbrev pub WorkedOut : Grammar → List Call → List (Result ℕ ReadingRefusal) → List ℕ → Type 0
WorkedOut g = WorksOut g []
