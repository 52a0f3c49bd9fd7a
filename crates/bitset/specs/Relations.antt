-- The relation that rows stand for. Assumes nothing.
use Rattle.std.specs.Prelude.{ℕ}
use Rattle.bitset.specs.declared.rows.Rows.{Rows}
use Rattle.bitset.specs.Bits.{In}

-- p is related to q
abbrev pub Holds : Rows → ℕ → ℕ → Type 0
Holds r p q = In r.rows p q
