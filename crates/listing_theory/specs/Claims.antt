-- What is claimed of listings. Assumes nothing.
use Rattle.std.specs.Prelude.{◌≡◌, ℕ, ◌⊎◌, List, [], ◌++◌}
use Rattle.listing_theory.specs.declared.record.Record.{Record}
use Rattle.grammar.specs.Grammar.{Grammar}
use Rattle.grammar.specs.Trees.{Tree, Free}
use Rattle.listing_theory.specs.Listings.{listing, Before}

-- of two trees of one grammar, wherever their words begin: the listing determines the tree, none is a proper front of another, and
-- the order of listings is total and strict
pub record ListedApart (g : Grammar) : Type 0 where
  pub determines : (p q i j : ℕ) (t u : Tree) → Free g p t → Free g q u → listing i t ≡ listing j u → t ≡ u
  pub no_front : (p q i j : ℕ) (t u : Tree) (xs : List Record) → Free g p t → Free g q u → listing i t ++ xs ≡ listing j u → xs ≡ []
  pub total :
      (p q i j : ℕ) (t u : Tree) →
      Free g p t →
      Free g q u →
      (listing i t ≡ listing j u) ⊎ (Before (listing i t) (listing j u) ⊎ Before (listing j u) (listing i t))
  pub never_both : (xs ys : List Record) → Before xs ys → ¬ Before ys xs
  pub never_self : (xs : List Record) → ¬ Before xs xs
  pub onward : (xs ys zs : List Record) → Before xs ys → Before ys zs → Before xs zs

-- the same of every grammar
abbrev pub ListingsApart : Type 0
ListingsApart = (g : Grammar) → ListedApart g
