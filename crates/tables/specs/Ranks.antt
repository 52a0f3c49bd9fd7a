-- How many numbers a set has. Assumes nothing.
use Rattle.std.specs.Prelude.{ℕ, zero, suc, ◌+◌, slice_index}
use Rattle.bitset.specs.Bits.{bit}
use Rattle.bitset.specs.declared.rows.Rows.{Rows}

-- how many numbers below n the set has
unfoldable pub count_below : ℕ → ℕ → ℕ
count_below set zero = 0
count_below set (suc n) = count_below set n + bit set n

-- the numbers that p is related to
abbrev pub row_of : Rows → ℕ → ℕ
row_of r p = slice_index r.rows p
