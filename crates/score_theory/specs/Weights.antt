-- What the sums over ways come to, from the sums over fewer symbols and shorter spans. Assumes nothing.
use Rattle.std.specs.Prelude.{◌≡◌, ℕ, zero, suc, ◌+◌, ◌-◌, ◌<◌, ◌≤◌, ◌⊎◌, List, length}
use Rattle.grammar.specs.Grammar.{Grammar, Nonterminal, Kind, At, Known, left_of, right_of, size_of}
use Rattle.grammar.specs.Order.{Conflict}
use Rattle.grammar.specs.Trees.{Forest}
use Rattle.scales.specs.Scales.{Scale}
use Rattle.score_theory.specs.Scores.{price_of, Way, Sums, Score}

-- the sum of the values of the numbers below n
unfoldable pub sum_below : {S : Type 0} → Scale S → ℕ → (ℕ → S) → S
sum_below s zero f = s.none
sum_below s (suc n) f = s.plus (sum_below s n f) (f n)

-- the production q may stand at position k of p
abbrev pub Choice : Grammar → ℕ → ℕ → ℕ → Type 0
Choice g p k q = Known g q × At (right_of g p) k (left_of g q) × Nonterminal (left_of g q) × (¬ Conflict g p k q)

-- the values of a split of the words from i to j at m, for each production that may stand last, and none for the others
pub record Split {S : Type 0} (s : Scale S) (g : Grammar) (W : ℕ → ℕ → ℕ → ℕ → S) (p k i j : ℕ) (term : ℕ → ℕ → S) : Type 0 where
  pub may : (m q : ℕ) → i ≤ m → m ≤ j → Choice g p k q → term m q ≡ s.times (W p k i m) (s.times (s.value (price_of g q)) (W q (size_of g q) m j))
  pub not : (m q : ℕ) → i ≤ m → m ≤ j → (¬ Choice g p k q) → term m q ≡ s.none

-- W has the sums over all ways
pub record Weights {S : Type 0} (s : Scale S) (g : Grammar) (ws : List ℕ) (W : ℕ → ℕ → ℕ → ℕ → S) : Type 0 where
  pub sums : (p k i j : ℕ) → Sums s g ws p k i j (W p k i j)
  -- whether there is a way
  pub decided : (p k i j : ℕ) → ((f : Forest) × Way g ws p k i j f) ⊎ ((f : Forest) → ¬ Way g ws p k i j f)
  pub no_way : (p k i j : ℕ) → ((f : Forest) → ¬ Way g ws p k i j f) → W p k i j ≡ s.none
  -- no symbols, and a span that ends before it begins
  pub empty : (p i : ℕ) → i ≤ length ws → W p 0 i i ≡ s.one
  pub no_empty : (p i j : ℕ) → (¬ (i ≡ j)) → W p 0 i j ≡ s.none
  pub backwards : (p k i j : ℕ) → j < i → W p k i j ≡ s.none
  -- one kind more
  pub kind : (p k i j a : ℕ) → At (right_of g p) k a → Kind a → At ws j a → W p (suc k) i (suc j) ≡ W p k i j
  pub no_kind : (p k i j a : ℕ) → At (right_of g p) k a → Kind a → (¬ At ws j a) → W p (suc k) i (suc j) ≡ s.none
  pub no_word : (p k i j a : ℕ) → At (right_of g p) k a → Kind a → j ≤ i → W p (suc k) i j ≡ s.none
  -- one nonterminal more
  pub nonterminal :
      (p k i j B : ℕ) →
      At (right_of g p) k B →
      Nonterminal B →
      i ≤ j →
      j ≤ length ws →
      (term : ℕ → ℕ → S) →
      Split s g W p k i j term →
      W p (suc k) i j ≡ sum_below s (suc (j - i)) (λ x. sum_below s (length g.productions) (λ q. term (i + x) q))
  -- all trees of the words, from the start productions
  pub whole :
      (term : ℕ → S) →
      ((p : ℕ) → Known g p → left_of g p ≡ g.start → term p ≡ s.times (s.value (price_of g p)) (W p (size_of g p) 0 (length ws))) →
      ((p : ℕ) → Known g p → (¬ (left_of g p ≡ g.start)) → term p ≡ s.none) →
      Score s g ws (sum_below s (length g.productions) term)
