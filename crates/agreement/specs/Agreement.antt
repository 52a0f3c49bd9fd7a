-- What readings of grammars with the same content agree on. Assumes nothing.
use Rattle.std.specs.Prelude.{◌≡◌, ℕ, ◌+◌, ◌*◌, ◌<◌, ◌≤◌, Bool, ◌↔◌, List, [], ◌∷◌, map, length, Ok, Err, Result}
use Rattle.grammar.specs.declared.refusals.ReadingRefusal.{ReadingRefusal}
use Rattle.grammar.specs.Grammar.{Grammar, places}
use Rattle.grammar.specs.Sound.{WellFormed}
use Rattle.bitset.specs.Bits.{Has}
use Rattle.theory.specs.Claims.{Viable}
use Rattle.scales.specs.Scales.{Scale}
use Rattle.score_theory.specs.Scores.{Score}
use Rattle.reading.specs.declared.reading.Reading.{Reading}
use Rattle.reading.specs.Readings.{words, grammar_of, Refused, Put, Looked, Scored}
use Rattle.sameness.specs.Sames.{Same, More}
use Rattle.agreement.specs.declared.call.Call.{Call}
use Rattle.agreement.specs.declared.call.Call.TheVariants.{Put as put_call}
use Rattle.agreement.specs.Histories.{Plain, changes, PlainlyPlayed, History, Stands, WorkedOut}

-- a put is refused, whichever of the answers that a put may give it gives, exactly if nothing begins so
abbrev pub Refuses : Reading → ℕ → Grammar → Type 0
Refuses r kind g = (a : Result ℕ ReadingRefusal) (after : Reading) → Put r kind a after → Refused a ↔ (¬ Viable g (words r) kind)

-- both readings refuse exactly what begins nothing in the one grammar, and exactly what begins nothing in the other
pub record PutsAgree (r q : Reading) (kind : ℕ) : Type 0 where
  pub here : Refuses r kind (grammar_of r)
  pub here_other : Refuses r kind (grammar_of q)
  pub there : Refuses q kind (grammar_of q)
  pub there_other : Refuses q kind (grammar_of r)
  pub same : (a b : Result ℕ ReadingRefusal) (after after' : Reading) → Put r kind a after → Put q kind b after' → a ≡ b

-- a table of the length is long enough to score the words that stand
abbrev pub TableLong : Reading → ℕ → Type 0
TableLong r n = places (grammar_of r).productions * ((length (words r) + 1) * (length (words r) + 1)) ≤ n

-- both answers are one value, the score of the words that stand
abbrev pub OneScore : {S : Type 0} → Scale S → Reading → Result S ReadingRefusal → Result S ReadingRefusal → Type 0
OneScore {S} s r a b = (v : S) × (a ≡ Ok v) × (b ≡ Ok v) × Score s (grammar_of r) (words r) v

-- both looks tell the same: whether the words are a sentence, and the same kinds
abbrev pub LooksAlike : Result (Bool × ℕ) ReadingRefusal → Result (Bool × ℕ) ReadingRefusal → Type 0
LooksAlike (Ok x) (Ok y) = (x.0 ≡ y.0) × ((b : ℕ) → b < 32 → Has x.1 b ↔ Has y.1 b)
LooksAlike (Ok x) (Err e) = ⊥
LooksAlike (Err e) b = ⊥

-- what two readings agree on
pub record Agree {S : Type 0} (s : Scale S) (r q : Reading) : Type 0 where
  pub puts : length (words r) < 48 → (kind : ℕ) → PutsAgree r q kind
  pub looks : (a b : Result (Bool × ℕ) ReadingRefusal) → Looked r a → Looked q b → LooksAlike a b
  pub scores :
      (before after before' after' : List S) (a b : Result S ReadingRefusal) →
      Scored s r before a after →
      Scored s q before' b after' →
      TableLong r (length before) →
      TableLong q (length before') →
      OneScore s r a b

-- the kinds, put one by one, have these answers
abbrev pub PutInRow : Reading → List ℕ → List Plain → Type 0
PutInRow r kinds xs = (after : Reading) × PlainlyPlayed r (map put_call kinds) xs after

-- none is a refusal
abbrev pub AllTaken : List (Result ℕ ReadingRefusal) → Type 0
AllTaken [] = Unit {0}
AllTaken (a ∷ xs) = (¬ Refused a) × AllTaken xs

-- over more productions with no more rules, what is taken in a row is taken
abbrev pub TakesMore : Reading → Reading → Type 0
TakesMore r q = (kinds : List ℕ) (xs ys : List Plain) → PutInRow r kinds xs → PutInRow q kinds ys → AllTaken (changes xs) → AllTaken (changes ys)

-- what all readings with a history keep, and what those of grammars with the same content, or with more, agree on
pub record Agreement {S : Type 0} (s : Scale S) : Type 0 where
  -- every put and taking back is answered as the grammar and the calls alone work out, and the words stand that they work out
  pub answers : (cs : List Call) (xs : List Plain) (r : Reading) → History cs xs r → WorkedOut (grammar_of r) cs (changes xs) (words r)
  -- by grammars that are the same, the same calls work out to the same
  pub one_answer :
      (g h : Grammar) →
      WellFormed g →
      WellFormed h →
      Same g h →
      (cs : List Call) (xs ys : List (Result ℕ ReadingRefusal)) (ws us : List ℕ) →
      WorkedOut g cs xs ws →
      WorkedOut h cs ys us →
      (xs ≡ ys) × (ws ≡ us)
  -- and so readings of such grammars answer the same calls with the same, and the same words stand
  pub same_answers :
      (cs : List Call) (xs ys : List Plain) (r q : Reading) →
      History cs xs r →
      History cs ys q →
      Same (grammar_of r) (grammar_of q) →
      (changes xs ≡ changes ys) × (words r ≡ words q)
  -- whatever the calls were, where the same words stand
  pub agree : (r q : Reading) → Stands r → Stands q → Same (grammar_of r) (grammar_of q) → words r ≡ words q → Agree s r q
  -- where no words stand
  pub more : (r q : Reading) → Stands r → Stands q → More (grammar_of r) (grammar_of q) → words r ≡ [] → words q ≡ [] → TakesMore r q
