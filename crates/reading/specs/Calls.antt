-- What the calls of a reading answer, over the grammar and the standing words. Assumes nothing.
use Rattle.std.specs.Prelude.{◌≡◌, ℕ, ◌≤◌, List, [], ◌∷◌, ◌++◌, length, Result}
use Rattle.grammar.specs.declared.refusals.ReadingRefusal.{ReadingRefusal}
use Rattle.grammar.specs.declared.refusals.Refusal.TheVariants.{Reading}
use Rattle.grammar.specs.Grammar.{Grammar, Kind}
use Rattle.grammar.specs.Refusals.{Answered}
use Rattle.theory.specs.Claims.{Viable}

-- why a word is refused
pub data PutCause (g : Grammar) (ws : List ℕ) (kind : ℕ) : ℕ → Type 0 where
  line_full : 48 ≤ length ws → PutCause g ws kind 9
  no_kind : (¬ Kind kind) → PutCause g ws kind 10
  nothing_begins : (¬ Viable g ws kind) → PutCause g ws kind 11

-- the answer to a word: how many then stand, the word last
abbrev pub Puts : Grammar → List ℕ → ℕ → Result ℕ ReadingRefusal → List ℕ → Type 0
Puts g ws kind = Answered Reading (PutCause g ws kind) (λ v after. (v ≡ length after) × (after ≡ ws ++ kind ∷ [])) ws

-- why no word can be taken back
pub data BackCause (ws : List ℕ) : ℕ → Type 0 where
  no_word : ws ≡ [] → BackCause ws 12

-- the answer to taking a word back: how many then stand, the last one gone
abbrev pub TakesBack : List ℕ → Result ℕ ReadingRefusal → List ℕ → Type 0
TakesBack ws = Answered Reading (BackCause ws) (λ v after. (v ≡ length after) × ((kind : ℕ) × (ws ≡ after ++ kind ∷ []))) ws
