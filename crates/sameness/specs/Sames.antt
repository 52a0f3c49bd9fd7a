-- When two grammars are the same by content, and when one has more productions. Assumes nothing.
use Rattle.std.specs.Prelude.{◌≡◌, ℕ}
use Rattle.grammar.specs.declared.rule.Relation.{Relation}
use Rattle.grammar.specs.Grammar.{Grammar, Known, left_of, right_of}
use Rattle.grammar.specs.Order.{Ruled, Says}
use Rattle.score_theory.specs.Scores.{price_of}

-- the production p of g and the production q of h have the same two sides
pub record Alike (g : Grammar) (p : ℕ) (h : Grammar) (q : ℕ) : Type 0 where
  pub here : Known g p
  pub there : Known h q
  pub lefts : left_of g p ≡ left_of h q
  pub rights : right_of g p ≡ right_of h q

-- each production of g is one of h
abbrev pub ProductionsIn : Grammar → Grammar → Type 0
ProductionsIn g h = (p : ℕ) → Known g p → (q : ℕ) × Alike g p h q

-- each production of g is one of h, at the same price
abbrev pub PricesIn : Grammar → Grammar → Type 0
PricesIn g h = (p : ℕ) → Known g p → (q : ℕ) × Alike g p h q × (price_of g p ≡ price_of h q)

-- h says of the productions p and q of g what r says; an associativity counts both ways round
abbrev pub SaysToo : Grammar → Grammar → ℕ → Relation → ℕ → Type 0
SaysToo g h p r q = (p' : ℕ) × (q' : ℕ) × Alike g p h p' × Alike g q h q' × Says h.rules p' r q'

-- each rule of g is one of h
abbrev pub RulesIn : Grammar → Grammar → Type 0
RulesIn g h = (p q : ℕ) (r : Relation) → Ruled g.rules p r q → SaysToo g h p r q

-- one start symbol and the same productions, prices and rules, in any order
pub record Same (g h : Grammar) : Type 0 where
  pub starts : g.start ≡ h.start
  pub prices : PricesIn g h
  pub prices_back : PricesIn h g
  pub rules : RulesIn g h
  pub rules_back : RulesIn h g

-- h has that start symbol, the productions of g or more, and no rules but those of g
pub record More (g h : Grammar) : Type 0 where
  pub starts : g.start ≡ h.start
  pub productions : ProductionsIn g h
  pub rules_back : RulesIn h g
