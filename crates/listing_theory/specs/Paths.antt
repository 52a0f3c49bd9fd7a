-- Paths down a tree: no nonterminal is met twice over one span, so paths are short. Assumes nothing.
use Rattle.std.specs.Prelude.{◌≡◌, ℕ, ◌+◌, ◌-◌, ◌*◌, ◌<◌, ◌≤◌, ◌⊎◌, List, [], ◌∷◌, length, slice_index_or}
use Rattle.grammar.specs.Grammar.{Grammar, left_of}
use Rattle.grammar.specs.Sound.{WellFormed}
use Rattle.grammar.specs.Trees.{Tree, node, Forest, bare, with_leaf, with_tree, words_of}
use Rattle.theory.specs.Claims.{Parse}
use Rattle.listing_theory.specs.declared.record.Record.{Record}
use Rattle.listing_theory.specs.Listings.{entry}

-- the tree u is among the children f, whose words begin behind i words, and its own begin behind s
abbrev pub ChildIn : ℕ → Forest → Tree → ℕ → Type 0
ChildIn i bare u s = ⊥
ChildIn i (with_leaf f a) u s = ChildIn i f u s
ChildIn i (with_tree f t) u s = ((u ≡ t) × (s ≡ i + length (words_of f))) ⊎ ChildIn i f u s

-- xs are the records of nodes of the tree, from its root down, each a child of the one before
pub data Path : ℕ → Tree → List Record → Type 0 where
  path_root : {i q : ℕ} {f : Forest} → Path i (node q f) (entry q i (i + length (words_of f)) ∷ [])
  path_down :
      {i q s : ℕ} {f : Forest} {u : Tree} {xs : List Record} →
      ChildIn i f u s →
      Path s u xs →
      Path i (node q f) (entry q i (i + length (words_of f)) ∷ xs)

abbrev pub record_at : List Record → ℕ → Record
record_at xs a = slice_index_or xs a (entry 0 0 0)

-- both records have the same nonterminal on the left, over the same words
abbrev pub Alike : Grammar → Record → Record → Type 0
Alike g x y = (left_of g (x.production - 1) ≡ left_of g (y.production - 1)) × (x.start ≡ y.start) × (x.end ≡ y.end)

-- a path meets no nonterminal twice over one span, and has at most sixteen nodes for each word and sixteen more
pub record ShortPath (g : Grammar) (ws : List ℕ) (xs : List Record) : Type 0 where
  pub apart : (a b : ℕ) → a < b → b < length xs → ¬ Alike g (record_at xs a) (record_at xs b)
  pub short : length xs ≤ 16 * (length ws + 1)

abbrev pub ShortPaths : Type 0
ShortPaths = (g : Grammar) → WellFormed g → (ws : List ℕ) (t : Tree) → Parse g ws t → (xs : List Record) → Path 0 t xs → ShortPath g ws xs
