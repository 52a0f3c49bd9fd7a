-- The product of a tree, and scores: the sums of the products of all conflict-free trees, each once. Assumes nothing.
use Rattle.std.specs.Prelude.{◌≡◌, ℕ, List}
use Rattle.grammar.specs.Grammar.{Grammar, production_at}
use Rattle.grammar.specs.Trees.{Tree, node, Forest, bare, with_leaf, with_tree, words_of, Covers}
use Rattle.grammar.specs.Sound.{WellFormed}
use Rattle.theory.specs.Claims.{Parse, Spells}
use Rattle.scales.specs.Scales.{Scale}
use Rattle.score_theory.specs.Totals.{Enumerates, total}

-- the price of the production of index p
abbrev pub price_of : Grammar → ℕ → ℕ
price_of g p = (production_at g.productions p).price

-- the value of the root's price, times the products of what stands below it, from left to right; that of a leaf is one
abbrev mutual
  pub product : {S : Type 0} → Scale S → Grammar → Tree → S
  product s g (node q f) = s.times (s.value (price_of g q)) (products s g f)

  pub products : {S : Type 0} → Scale S → Grammar → Forest → S
  products s g bare = s.one
  products s g (with_leaf f a) = s.times (products s g f) s.one
  products s g (with_tree f t) = s.times (products s g f) (product s g t)

-- the sum over the members of a list, on a scale
abbrev pub sum_on : {S A : Type 0} → Scale S → (A → S) → List A → S
sum_on s f xs = total s.none s.plus f xs

-- v is the sum of the products of all conflict-free trees of the words, each tree once
pub record Score {S : Type 0} (s : Scale S) (g : Grammar) (ws : List ℕ) (v : S) : Type 0 where
  pub trees : List Tree
  pub all : Enumerates (Parse g ws) trees
  pub is : v ≡ sum_on s (product s g) trees

-- f is a conflict-free way in which the first k symbols of p cover the words from i to j
abbrev pub Way : Grammar → List ℕ → ℕ → ℕ → ℕ → ℕ → Forest → Type 0
Way g ws p k i j f = Covers g p k f × Spells ws i j (words_of f)

-- v is the sum of the products of all these ways, each way once; the price of p itself is left out
pub record Sums {S : Type 0} (s : Scale S) (g : Grammar) (ws : List ℕ) (p k i j : ℕ) (v : S) : Type 0 where
  pub ways : List Forest
  pub all : Enumerates (Way g ws p k i j) ways
  pub is : v ≡ sum_on s (products s g) ways

-- every list of words has a score in every well-formed grammar, and only one
pub record Scored {S : Type 0} (s : Scale S) : Type 0 where
  pub some : (g : Grammar) → WellFormed g → (ws : List ℕ) → (v : S) × Score s g ws v
  pub one : (g : Grammar) (ws : List ℕ) (v v' : S) → Score s g ws v → Score s g ws v' → v ≡ v'
