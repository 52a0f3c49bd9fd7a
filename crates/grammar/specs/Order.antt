-- The closed order of priority rules, and when a child production conflicts with its parent. Assumes nothing.
use Rattle.std.specs.Prelude.{◌≡◌, ℕ, suc, ◌≤◌, ◌⊎◌, List}
use mathlib.Core.List.{Memᴰ}
use Rattle.grammar.specs.declared.rule.Relation.{Relation}
use Rattle.grammar.specs.declared.rule.Relation.TheVariants.{Priority, Left, Right, NonAssoc}
use Rattle.grammar.specs.Grammar.{Rule, Grammar, size_of}

-- the transitive closure of a relation: one step or more
pub data Closure (R : ℕ → ℕ → Type 0) : ℕ → ℕ → Type 0 where
  closure_one : {x y : ℕ} → R x y → Closure R x y
  closure_more : {x y z : ℕ} → R x y → Closure R y z → Closure R x z

-- the rule itself is among the rules
abbrev pub Ruled : List Rule → ℕ → Relation → ℕ → Type 0
Ruled rs p r q = Memᴰ (record { upper = p; relation = r; lower = q }) rs

-- p has priority over q, by the rules or by what follows from them
abbrev pub Above : List Rule → ℕ → ℕ → Type 0
Above rs = Closure (λ p q. Ruled rs p Priority q)

-- an associativity rule counts both ways round
abbrev pub Beside : List Rule → ℕ → Relation → ℕ → Type 0
Beside rs p r q = Ruled rs p r q ⊎ Ruled rs q r p

-- the rules say this: a priority as it stands, an associativity either way round
abbrev pub Says : List Rule → ℕ → Relation → ℕ → Type 0
Says rs p Priority q = Ruled rs p Priority q
Says rs p Left q = Beside rs p Left q
Says rs p Right q = Beside rs p Right q
Says rs p NonAssoc q = Beside rs p NonAssoc q

-- the production q may not stand at position k of the production p
pub data Conflict (g : Grammar) (p k q : ℕ) : Type 0 where
  conflict_above : Above g.rules p q → Conflict g p k q
  conflict_first : 2 ≤ size_of g p → k ≡ 0 → Beside g.rules p Right q ⊎ Beside g.rules p NonAssoc q → Conflict g p k q
  conflict_last : 2 ≤ size_of g p → suc k ≡ size_of g p → Beside g.rules p Left q ⊎ Beside g.rules p NonAssoc q → Conflict g p k q
