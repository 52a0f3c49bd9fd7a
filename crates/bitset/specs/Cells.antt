-- Sets of numbers below 128 in cells of 64 bits, two cells to a set. Assumes nothing.
use Rattle.std.specs.Prelude.{ℕ, ◌+◌, ◌*◌, ◌/◌, ◌%◌, ◌<◌, List, slice_index}
use Rattle.bitset.specs.Bits.{Has}

-- d is in the set that begins at the cell `at`
abbrev pub InSet : List ℕ → ℕ → ℕ → Type 0
InSet cells at d = Has (slice_index cells (at + d / 64)) (d % 64)

-- d is in the set of number x, which begins at the cell 2x
abbrev pub Marked : List ℕ → ℕ → ℕ → Type 0
Marked cells x d = (d < 128) × InSet cells (2 * x) d
