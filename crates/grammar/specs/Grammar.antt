-- Grammars: productions with prices, and rules between productions. Assumes nothing.
use Rattle.std.specs.Prelude.{◌≡◌, ℕ, ◌+◌, ◌<◌, ◌≤◌, List, [], ◌∷◌, ◌++◌, length, sum_by, slice_index, slice_index_or}
use Rattle.grammar.specs.declared.rule.Relation.{Relation}
use Rattle.grammar.specs.declared.rule.Relation.TheVariants.{Priority}

-- a left nonterminal, the symbols of the right side, and a price
pub record Production : Type 0 where
  pub left : ℕ
  pub right : List ℕ
  pub price : ℕ

-- a relation between two productions, by their indices, which count from 0
pub record Rule : Type 0 where
  pub upper : ℕ
  pub relation : Relation
  pub lower : ℕ

pub record Grammar : Type 0 where
  pub start : ℕ
  pub productions : List Production
  pub rules : List Rule

-- the symbols from 0 to 15
abbrev pub Nonterminal : ℕ → Type 0
Nonterminal s = s < 16

-- the terminals: the symbols from 16 to 47
abbrev pub Kind : ℕ → Type 0
Kind s = (16 ≤ s) × (s < 48)

-- x stands at index i of xs
abbrev pub At : List ℕ → ℕ → ℕ → Type 0
At xs i x = (i < length xs) × (slice_index xs i ≡ x)

-- what look-ups past the last production give
abbrev pub no_production : Production
no_production = record { left = 0; right = []; price = 0 }

abbrev pub production_at : List Production → ℕ → Production
production_at ps p = slice_index_or ps p no_production

-- what look-ups past the last rule give
abbrev pub no_rule : Rule
no_rule = record { upper = 0; relation = Priority; lower = 0 }

abbrev pub rule_at : List Rule → ℕ → Rule
rule_at rs k = slice_index_or rs k no_rule

-- the sides of the production of index p
abbrev pub left_at : List Production → ℕ → ℕ
left_at ps p = (production_at ps p).left

abbrev pub right_at : List Production → ℕ → List ℕ
right_at ps p = (production_at ps p).right

-- p is the index of a production of the grammar
abbrev pub Known : Grammar → ℕ → Type 0
Known g p = p < length g.productions

abbrev pub left_of : Grammar → ℕ → ℕ
left_of g p = left_at g.productions p

abbrev pub right_of : Grammar → ℕ → List ℕ
right_of g p = right_at g.productions p

-- the number of symbols on the right
abbrev pub size_of : Grammar → ℕ → ℕ
size_of g p = length (right_of g p)

-- a production has a place for each position of the dot in its right side
abbrev pub places : List Production → ℕ
places ps = sum_by (λ p. length p.right + 1) ps

abbrev pub empty_grammar : Grammar
empty_grammar = record { start = 0; productions = []; rules = [] }

abbrev pub with_start : Grammar → ℕ → Grammar
with_start g s = record { start = s; productions = g.productions; rules = g.rules }

abbrev pub with_production : Grammar → Production → Grammar
with_production g p = record { start = g.start; productions = g.productions ++ p ∷ []; rules = g.rules }

abbrev pub with_rule : Grammar → Rule → Grammar
with_rule g r = record { start = g.start; productions = g.productions; rules = g.rules ++ r ∷ [] }
