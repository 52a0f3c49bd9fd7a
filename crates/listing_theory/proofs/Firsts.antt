-- The children that can be next, the first of them, and the smallest way from a position on.
use Rattle.std.proofs.Common.{◌≡◌, ℕ, suc, ◌<◌, List, length}
use Rattle.grammar.specs.Grammar.{Grammar, Nonterminal, At, Known, left_of, right_of}
use Rattle.grammar.specs.Order.{Conflict}
use Rattle.listing_theory.specs.declared.record.Record.{Record}
use Rattle.listing_theory.specs.Listings.{Before}
use Rattle.listing_theory.specs.Ways.{Rest, Reach}

-- q may stand at position k of p
abbrev pub FitsAt : Grammar → ℕ → ℕ → ℕ → Type 0
FitsAt g p k q = Known g q × At (right_of g p) k (left_of g q) × Nonterminal (left_of g q) × (¬ Conflict g p k q)

-- q over the words from s to e can be the child at position k of p, whose words end at j
abbrev pub Steps : Grammar → List ℕ → ℕ → ℕ → ℕ → ℕ → ℕ → ℕ → Type 0
Steps g ws p k s j q e = FitsAt g p k q × Reach g ws q 0 s e × Reach g ws p (suc k) e j

-- xs is the smallest list of a way through the symbols of p from position k on, over the words from s to j
pub record SmallestRest (g : Grammar) (ws : List ℕ) (p k s j : ℕ) (xs : List Record) : Type 0 where
  pub way : Rest g ws p k s j xs
  pub least : (ys : List Record) → Rest g ws p k s j ys → ¬ Before ys xs

-- of the children that can be next, (q, e) has the smallest production, and for it the smallest end
pub record FirstChild (g : Grammar) (ws : List ℕ) (p k s j q e : ℕ) : Type 0 where
  pub can : Steps g ws p k s j q e
  pub smaller : (r m : ℕ) → r < q → ¬ Steps g ws p k s j r m
  pub sooner : (m : ℕ) → m < e → ¬ Steps g ws p k s j q m

-- p is the smallest production of the start that has a tree of the words
pub record FirstRoot (g : Grammar) (ws : List ℕ) (p : ℕ) : Type 0 where
  pub known : Known g p
  pub starts : left_of g p ≡ g.start
  pub can : Reach g ws p 0 0 (length ws)
  pub smaller : (r : ℕ) → r < p → Known g r → left_of g r ≡ g.start → ¬ Reach g ws r 0 0 (length ws)
