-- What every accepted draft keeps. Assumes nothing.
use Rattle.std.specs.Prelude.{◌≡◌, ℕ, ◌<◌, ◌≤◌, List, length, take, slice_index, slice_index_or}
use mathlib.Core.List.{Memᴰ}
use Rattle.grammar.specs.Grammar.{Production, Rule, Grammar, Nonterminal, Known, production_at, left_at, right_at, places}
use Rattle.grammar.specs.Order.{Above, Says}
use Rattle.grammar.specs.Derivations.{LeadsOn}

-- the sizes that a grammar has at most
abbrev pub Small : Grammar → Type 0
Small g = (length g.productions ≤ 32) × (places g.productions ≤ 128) × (length g.rules ≤ 64)

-- every left side, symbol and price is in range, and no right side is longer than six symbols
abbrev pub SidesInRange : List Production → Type 0
SidesInRange ps = (p : ℕ) → p < length ps → Nonterminal (left_at ps p) × (length (right_at ps p) ≤ 6)

abbrev pub SymbolsInRange : List Production → Type 0
SymbolsInRange ps = (p k : ℕ) → p < length ps → k < length (right_at ps p) → slice_index (right_at ps p) k < 48

abbrev pub PricesInRange : List Production → Type 0
PricesInRange ps = (p : ℕ) → p < length ps → (production_at ps p).price ≤ 65535

-- the productions of two indices have the same two sides
abbrev pub Alike : List Production → ℕ → ℕ → Type 0
Alike ps p q = (p < length ps) × (q < length ps) × (left_at ps p ≡ left_at ps q) × (right_at ps p ≡ right_at ps q)

-- no two productions have
abbrev pub Apart : List Production → Type 0
Apart ps = (p q : ℕ) → Alike ps p q → p ≡ q

-- the rules are between productions of the grammar
abbrev pub Named : Grammar → Type 0
Named g = (r : Rule) → Memᴰ r g.rules → Known g r.upper × Known g r.lower

-- no rule stands twice; an associativity counts both ways round
abbrev pub RulesApart : List Rule → Type 0
RulesApart rs = (k : ℕ) (r : Rule) → k < length rs → ¬ Says (take k rs) (slice_index_or rs k r).upper (slice_index_or rs k r).relation (slice_index_or rs k r).lower

-- no nonterminal leads to itself, and no production has priority over itself
abbrev pub Acyclic : List Production → Type 0
Acyclic ps = (A : ℕ) → ¬ LeadsOn ps A A

abbrev pub Ordered : List Rule → Type 0
Ordered rs = (p : ℕ) → ¬ Above rs p p

-- what every accepted grammar has
pub record WellFormed (g : Grammar) : Type 0 where
  pub small : Small g
  pub starts : Nonterminal g.start
  pub sides : SidesInRange g.productions
  pub symbols : SymbolsInRange g.productions
  pub prices : PricesInRange g.productions
  pub apart : Apart g.productions
  pub named : Named g
  pub unrepeated : RulesApart g.rules
  pub acyclic : Acyclic g.productions
  pub ordered : Ordered g.rules
