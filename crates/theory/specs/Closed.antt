-- Sets that are closed under the steps of live productions and of items. Assumes nothing.
use Rattle.std.specs.Prelude.{◌≡◌, ℕ, suc, ◌⊎◌, List}
use Rattle.grammar.specs.Grammar.{Grammar, Nonterminal, Kind, At, Known, left_of, right_of, size_of}
use Rattle.grammar.specs.Order.{Conflict}
use Rattle.grammar.specs.Items.{Live}

-- position k of p, where the symbol s stands, can be filled by a word of that kind or by a production of S in no conflict
abbrev pub FillsIn : Grammar → (ℕ → Type 0) → ℕ → ℕ → ℕ → Type 0
FillsIn g S p k s = Kind s ⊎ ((q : ℕ) × Nonterminal s × (left_of g q ≡ s) × (¬ Conflict g p k q) × S q)

-- S has every production whose positions can be filled from S
pub record LiveClosed (g : Grammar) (S : ℕ → Type 0) : Type 0 where
  pub more : (p : ℕ) → Known g p → ((k s : ℕ) → At (right_of g p) k s → FillsIn g S p k s) → S p

-- S has every item that follows from items of S
pub record ItemClosed (g : Grammar) (ws : List ℕ) (S : ℕ → ℕ → ℕ → ℕ → Type 0) : Type 0 where
  pub inits : (p : ℕ) → Live g p → left_of g p ≡ g.start → S p 0 0 0
  pub predicts :
      (p k h i q : ℕ) →
      S p k h i →
      At (right_of g p) k (left_of g q) →
      Nonterminal (left_of g q) →
      (¬ Conflict g p k q) →
      Live g q →
      S q 0 i i
  pub scans : (p k h i a : ℕ) → S p k h i → At (right_of g p) k a → Kind a → At ws i a → S p (suc k) h (suc i)
  pub completes :
      (p k h i j q : ℕ) →
      S p k h i →
      S q (size_of g q) i j →
      At (right_of g p) k (left_of g q) →
      Nonterminal (left_of g q) →
      (¬ Conflict g p k q) →
      S p (suc k) h j
