-- The steps of the computations: what is in a set of symbols, and what comes into a relation. Assumes nothing.
pub use Rattle.bitset.specs.Steps.{Adds, Gathers}
use Rattle.std.specs.Prelude.{◌≡◌, ℕ, List}
use Rattle.grammar.specs.declared.rule.Relation.TheVariants.{Priority}
use Rattle.grammar.specs.Grammar.{Production, Rule, Nonterminal, At}
use Rattle.bitset.specs.Bits.{Has}

-- every symbol of xs is in the set
abbrev pub EveryIn : ℕ → List ℕ → Type 0
EveryIn set xs = (i x : ℕ) → At xs i x → Has set x

-- every symbol of xs but the one at k is in the set
abbrev pub OthersIn : ℕ → List ℕ → ℕ → Type 0
OthersIn set xs k = (i x : ℕ) → At xs i x → (¬ (i ≡ k)) → Has set x

-- the production p of x has the nonterminal y at k, and all its other symbols are in the set
abbrev pub Passes : ℕ → Production → ℕ → ℕ → ℕ → Type 0
Passes set p k x y = (x ≡ p.left) × At p.right k y × Nonterminal y × OthersIn set p.right k

-- the rule says that x has priority over y
abbrev pub Prefers : Rule → ℕ → ℕ → Type 0
Prefers r x y = r ≡ record { upper = x; relation = Priority; lower = y }
