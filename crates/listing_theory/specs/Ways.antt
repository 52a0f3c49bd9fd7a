-- Ways through the symbols of a production from a position on, and the smallest tree of a production. Assumes nothing.
use Rattle.std.specs.Prelude.{◌≡◌, ℕ, suc, ◌+◌, List, [], ◌∷◌, ◌++◌, length, take}
use Rattle.grammar.specs.Grammar.{Grammar, Nonterminal, Kind, At, Known, left_of, right_of, size_of}
use Rattle.grammar.specs.Order.{Conflict}
use Rattle.grammar.specs.Trees.{Tree, words, Free}
use Rattle.listing_theory.specs.declared.record.Record.{Record}
use Rattle.listing_theory.specs.Listings.{entry, listing, Before}

-- us are the words from i to j
abbrev pub Between : List ℕ → ℕ → ℕ → List ℕ → Type 0
Between ws i j us = (j ≡ i + length us) × (take j ws ≡ take i ws ++ us)

-- t is a conflict-free tree of p over the words from i to j, and no other has a smaller listing
pub record SmallestAt (g : Grammar) (ws : List ℕ) (p i j : ℕ) (t : Tree) : Type 0 where
  pub is_free : Free g p t
  pub spells : Between ws i j (words t)
  pub least : (u : Tree) → Free g p u → Between ws i j (words u) → ¬ Before (listing i u) (listing i t)

-- xs lists a way through the symbols of p from position k on, over the words from s to j
pub data Rest (g : Grammar) (ws : List ℕ) : ℕ → ℕ → ℕ → ℕ → List Record → Type 0 where
  rest_end : {p k s j : ℕ} → k ≡ size_of g p → s ≡ j → Rest g ws p k s j []
  rest_kind :
      {p k s j a : ℕ} {xs : List Record} →
      At (right_of g p) k a →
      Kind a →
      At ws s a →
      Rest g ws p (suc k) (suc s) j xs →
      Rest g ws p k s j xs
  rest_tree :
      {p k s e j q : ℕ} {ys xs zs : List Record} →
      At (right_of g p) k (left_of g q) →
      Nonterminal (left_of g q) →
      (¬ Conflict g p k q) →
      Known g q →
      Rest g ws q 0 s e ys →
      Rest g ws p (suc k) e j xs →
      zs ≡ entry q s e ∷ (ys ++ xs) →
      Rest g ws p k s j zs

-- the symbols of p from position k on can stand over the words from s to j
abbrev pub Reach : Grammar → List ℕ → ℕ → ℕ → ℕ → ℕ → Type 0
Reach g ws p k s j = (xs : List Record) × Rest g ws p k s j xs
