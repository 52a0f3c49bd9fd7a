-- Listings of trees, their order, and the tree of the words with the smallest. Assumes nothing.
use Rattle.std.specs.Prelude.{◌≡◌, ℕ, ◌+◌, ◌<◌, ◌⊎◌, List, [], ◌∷◌, ◌++◌, length}
use Rattle.grammar.specs.Grammar.{Grammar}
use Rattle.grammar.specs.Trees.{Tree, node, Forest, bare, with_leaf, with_tree, words_of}
use Rattle.theory.specs.Claims.{Parse}
use Rattle.listing_theory.specs.declared.record.Record.{Record}

-- the record of a node of the production of index q over the words from i to j
abbrev pub entry : ℕ → ℕ → ℕ → Record
entry q i j = record { production = q + 1; start = i; end = j }

-- the records of a tree whose words begin behind i words: the parent, then the children from left to right
abbrev mutual
  pub listing : ℕ → Tree → List Record
  listing i (node q f) = entry q i (i + length (words_of f)) ∷ listings i f

  pub listings : ℕ → Forest → List Record
  listings i bare = []
  listings i (with_leaf f a) = listings i f
  listings i (with_tree f t) = listings i f ++ listing (i + length (words_of f)) t

-- the smaller production, then the smaller start, then the smaller end
abbrev pub Less : Record → Record → Type 0
Less x y = (x.production < y.production) ⊎ ((x.production ≡ y.production) × ((x.start < y.start) ⊎ ((x.start ≡ y.start) × (x.end < y.end))))

-- at the first record where they differ, that of xs is less
abbrev pub Before : List Record → List Record → Type 0
Before [] ys = ⊥
Before (x ∷ xs) [] = ⊥
Before (x ∷ xs) (y ∷ ys) = Less x y ⊎ ((x ≡ y) × Before xs ys)

-- t is the conflict-free tree of the words with the smallest listing
pub record Smallest (g : Grammar) (ws : List ℕ) (t : Tree) : Type 0 where
  pub parse : Parse g ws t
  pub least : (u : Tree) → Parse g ws u → ¬ Before (listing 0 u) (listing 0 t)
