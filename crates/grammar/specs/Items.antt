-- Live productions, and the items of a list of words: Earley's schema modulo conflicts, over live productions. Assumes nothing.
use Rattle.std.specs.Prelude.{◌≡◌, ℕ, suc, List}
use Rattle.grammar.specs.Grammar.{Grammar, Nonterminal, Kind, At, Known, left_of, right_of, size_of}
use Rattle.grammar.specs.Order.{Conflict}

mutual
  -- each position of p's right side can be filled
  pub data Live (g : Grammar) : ℕ → Type 0 where
    live : {p : ℕ} → Known g p → ((k s : ℕ) → At (right_of g p) k s → Fills g p k s) → Live g p

  -- position k of p, where the symbol s stands, can be filled: by a word of that kind, or by a live production in no conflict
  pub data Fills (g : Grammar) : ℕ → ℕ → ℕ → Type 0 where
    fills_kind : {p k s : ℕ} → Kind s → Fills g p k s
    fills_live : {p k s q : ℕ} → Nonterminal s → left_of g q ≡ s → (¬ Conflict g p k q) → Live g q → Fills g p k s

-- the first k symbols of p cover the words from i to j, where p may begin at i
pub data Item (g : Grammar) (ws : List ℕ) : ℕ → ℕ → ℕ → ℕ → Type 0 where
  init : {p : ℕ} → Live g p → left_of g p ≡ g.start → Item g ws p 0 0 0
  predict :
      {p k h i q : ℕ} →
      Item g ws p k h i →
      At (right_of g p) k (left_of g q) →
      Nonterminal (left_of g q) →
      (¬ Conflict g p k q) →
      Live g q →
      Item g ws q 0 i i
  scan : {p k h i a : ℕ} → Item g ws p k h i → At (right_of g p) k a → Kind a → At ws i a → Item g ws p (suc k) h (suc i)
  complete :
      {p k h i j q : ℕ} →
      Item g ws p k h i →
      Item g ws q (size_of g q) i j →
      At (right_of g p) k (left_of g q) →
      Nonterminal (left_of g q) →
      (¬ Conflict g p k q) →
      Item g ws p (suc k) h j
