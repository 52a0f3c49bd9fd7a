-- Which rules relate two productions, and which bar one at the end of the other. Assumes nothing.
use Rattle.std.specs.Prelude.{◌≡◌, ℕ, ◌⊎◌, ◌↔◌, List}
use Rattle.grammar.specs.declared.rule.Relation.{Relation}
use Rattle.grammar.specs.declared.rule.Relation.TheVariants.{NonAssoc}
use Rattle.grammar.specs.Grammar.{Rule, Grammar, size_of}
use Rattle.grammar.specs.Order.{Above, Beside}
use Rattle.bitset.specs.declared.rows.Rows.{Rows}
use Rattle.bitset.specs.Relations.{Holds}

-- the rule has this relation between the two productions, either way round
abbrev pub Relates : Rule → ℕ → Relation → ℕ → Type 0
Relates r p relation q = (r.relation ≡ relation) × (((r.upper ≡ p) × (r.lower ≡ q)) ⊎ ((r.upper ≡ q) × (r.lower ≡ p)))

-- the two productions associate by this relation or not at all
abbrev pub Barred : List Rule → ℕ → Relation → ℕ → Type 0
Barred rs p relation q = Beside rs p relation q ⊎ Beside rs p NonAssoc q

-- the rows hold the closed order of the priority rules
abbrev pub OrderOf : Rows → List Rule → Type 0
OrderOf rows rs = (p q : ℕ) → Holds rows p q ↔ Above rs p q

-- what a test of conflicts says of every grammar with these rules in which the right side of p has this size
abbrev pub InGrammars : List Rule → ℕ → ℕ → (Grammar → Type 0) → Type 0
InGrammars rs p size P = (g : Grammar) → g.rules ≡ rs → size_of g p ≡ size → P g
