-- What the functions ask of productions and rules. Assumes nothing.
use Rattle.std.specs.Prelude.{ℕ, ◌<◌, ◌≤◌, List, length, slice_index_or}
use Rattle.grammar.specs.declared.rule.Rule.{Rule as Numbered}
use Rattle.grammar.specs.Grammar.{Production, Nonterminal, left_at}

-- every left side is a nonterminal
abbrev pub Lefts : List Production → Type 0
Lefts ps = (k : ℕ) → k < length ps → Nonterminal (left_at ps k)

-- the rule holds numbers from 1 to 32
abbrev pub Between : Numbered → Type 0
Between r = (0 < r.upper) × (r.upper ≤ 32) × (0 < r.lower) × (r.lower ≤ 32)

-- every rule does
abbrev pub Numbers : List Numbered → Type 0
Numbers rs = (k : ℕ) (d : Numbered) → k < length rs → Between (slice_index_or rs k d)
