-- What the tables of a grammar say of its productions, place by place. Assumes nothing.
use Rattle.std.specs.Prelude.{◌≡◌, ℕ, ◌+◌, ◌<◌, ◌↔◌, List, length}
use Rattle.grammar.specs.Grammar.{Production, Rule, Grammar, Nonterminal, At, Known, left_of, right_of, right_at}
use Rattle.grammar.specs.Order.{Conflict}
use Rattle.tables.specs.Places.{first_place}
use Rattle.tables.specs.Sets.{Marked}

-- whatever the start symbol is
abbrev pub AnyStart : List Production → List Rule → (Grammar → Type 0) → Type 0
AnyStart ps rs P = (start : ℕ) → P (record { start = start; productions = ps; rules = rs })

-- the production q may stand at position k of the production p, without conflict
abbrev pub Admits : Grammar → ℕ → ℕ → ℕ → Type 0
Admits g p k q = At (right_of g p) k (left_of g q) × Nonterminal (left_of g q) × (¬ Conflict g p k q)

-- the place d is that of position k of the production p, and the set x has it
abbrev pub Entry : List Production → (ℕ → ℕ → ℕ → Type 0) → ℕ → ℕ → ℕ → ℕ → Type 0
Entry ps has p k x d = has p k x × (d ≡ first_place ps p + k)

-- the same for some position of p
abbrev pub Row : List Production → (ℕ → ℕ → ℕ → Type 0) → ℕ → ℕ → ℕ → Type 0
Row ps has p x d = (k : ℕ) × (k < length (right_at ps p)) × Entry ps has p k x d

-- the cells have exactly the entries of all productions
abbrev pub Tabulates : List Production → (ℕ → ℕ → ℕ → Type 0) → List ℕ → Type 0
Tabulates ps has cells = (x d : ℕ) → Marked cells x d ↔ ((p : ℕ) × (p < length ps) × Row ps has p x d)

-- the set x has the places of those positions where the production x may stand
abbrev pub WaitsFor : Grammar → ℕ → ℕ → ℕ → Type 0
WaitsFor g p k x = Known g x × Admits g p k x

-- the set x has the places before the kind 16 + x
abbrev pub KindNext : List Production → ℕ → ℕ → ℕ → Type 0
KindNext ps p k x = At (right_at ps p) k (16 + x)
