-- Trees of a grammar, their words, and which are free of conflicts. Assumes nothing.
use Rattle.std.specs.Prelude.{◌≡◌, ℕ, suc, List, [], ◌∷◌, ◌++◌}
use Rattle.grammar.specs.Grammar.{Grammar, Nonterminal, Kind, At, Known, left_of, right_of, size_of}
use Rattle.grammar.specs.Order.{Conflict}

mutual
  -- a node is a production, by its index, with its children
  pub data Tree : Type 0 where
    node : ℕ → Forest → Tree

  -- the children of a node, the last one outermost; a leaf is a kind
  pub data Forest : Type 0 where
    bare : Forest
    with_leaf : Forest → ℕ → Forest
    with_tree : Forest → Tree → Forest

-- the leaves from left to right
abbrev mutual
  pub words : Tree → List ℕ
  words (node q f) = words_of f

  pub words_of : Forest → List ℕ
  words_of bare = []
  words_of (with_leaf f a) = words_of f ++ (a ∷ [])
  words_of (with_tree f t) = words_of f ++ words t

-- f is a conflict-free way through the first k symbols of the production p
pub data Covers (g : Grammar) : ℕ → ℕ → Forest → Type 0 where
  covers_none : {p : ℕ} → Covers g p 0 bare
  covers_leaf : {p k a : ℕ} {f : Forest} → Covers g p k f → At (right_of g p) k a → Kind a → Covers g p (suc k) (with_leaf f a)
  covers_tree :
      {p k q : ℕ} {f h : Forest} →
      Covers g p k f →
      At (right_of g p) k (left_of g q) →
      Nonterminal (left_of g q) →
      (¬ Conflict g p k q) →
      Known g q →
      Covers g q (size_of g q) h →
      Covers g p (suc k) (with_tree f (node q h))

-- t is a conflict-free tree of the production q
pub data Free (g : Grammar) : ℕ → Tree → Type 0 where
  free_node : {q : ℕ} {f : Forest} → Known g q → Covers g q (size_of g q) f → Free g q (node q f)

-- t is a conflict-free tree of the grammar: its root is a production of the start symbol
pub record Whole (g : Grammar) (t : Tree) : Type 0 where
  pub top : ℕ
  pub is_free : Free g top t
  pub starts : left_of g top ≡ g.start
