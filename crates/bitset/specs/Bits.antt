-- Sets of numbers as bits, and relations between numbers as rows of bits. Assumes nothing.
use Rattle.std.specs.Prelude.{◌≡◌, ℕ, ◌/◌, ◌%◌, ◌^◌, List, slice_index}

-- bit d of c: 1 where it is set, else 0
unfoldable pub bit : ℕ → ℕ → ℕ
bit c d = c / 2 ^ d % 2

-- d is in the set whose bits are those of c
abbrev pub Has : ℕ → ℕ → Type 0
Has c d = bit c d ≡ 1

-- row p has q
abbrev pub In : List ℕ → ℕ → ℕ → Type 0
In rows p q = Has (slice_index rows p) q
