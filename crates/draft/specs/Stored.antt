-- The grammar that a draft's fields hold, and what every draft keeps. Assumes nothing.
use Rattle.std.specs.Prelude.{◌≡◌, ℕ, ◌<◌, ◌≤◌, ◌⊎◌, List, slice_index_or}
use Rattle.grammar.specs.declared.production.Production.{Production as Stored}
use Rattle.grammar.specs.declared.rule.Rule.{Rule as Numbered}
use Rattle.grammar.specs.declared.rule.Relation.{Relation}
use Rattle.grammar.specs.declared.rule.Relation.TheVariants.{Priority}
use Rattle.grammar.specs.Grammar.{Grammar}
use Rattle.grammar.specs.Model.{productions, rules}

-- what the fields hold, as a grammar
abbrev pub grammar : ℕ → List Stored → List Numbered → Grammar
grammar start ps rs = record { start = start; productions = productions ps; rules = rules rs }

-- the rules hold numbers from 1 to the count of productions
abbrev pub Numbers : List Numbered → ℕ → ℕ → Type 0
Numbers rs ruled count = (k : ℕ) (d : Numbered) → k < ruled → (0 < (slice_index_or rs k d).upper) × ((slice_index_or rs k d).upper ≤ count) × (0 < (slice_index_or rs k d).lower) × ((slice_index_or rs k d).lower ≤ count)

-- the rule says this of the productions of these numbers; an associativity counts both ways round
abbrev pub SameRule : Numbered → ℕ → Relation → ℕ → Type 0
SameRule x upper relation lower = (x.relation ≡ relation) × (((x.upper ≡ upper) × (x.lower ≡ lower)) ⊎ ((¬ (relation ≡ Priority)) × (x.upper ≡ lower) × (x.lower ≡ upper)))
