-- Right sides that a set of productions fills, by the table of places that wait for productions. Assumes nothing.
use Rattle.std.specs.Prelude.{ℕ, ◌+◌, ◌≤◌, ◌⊎◌, List}
use Rattle.grammar.specs.Grammar.{Production, Rule, Grammar, At, right_at}
use Rattle.bitset.specs.Bits.{Has}
use Rattle.tables.specs.Entries.{AnyStart, Tabulates, WaitsFor}
use Rattle.tables.specs.Places.{first_place}
use Rattle.tables.specs.Sets.{Marked}

-- a production of the set may stand behind the place d
abbrev pub Filled : List ℕ → ℕ → ℕ → Type 0
Filled waits set d = (q : ℕ) × Has set q × Marked waits q d

-- each symbol of the right side of the production p is a kind or filled by the set
abbrev pub FillableAt : List Production → List ℕ → ℕ → ℕ → Type 0
FillableAt ps waits set p = (k s : ℕ) → At (right_at ps p) k s → (16 ≤ s) ⊎ Filled waits set (first_place ps p + k)

-- in every grammar with these productions whose places wait as the table says
abbrev pub WhereWaits : List Production → List ℕ → (Grammar → Type 0) → Type 0
WhereWaits ps waits P = (rs : List Rule) → AnyStart ps rs (λ g. Tabulates g.productions (WaitsFor g) waits → P g)
