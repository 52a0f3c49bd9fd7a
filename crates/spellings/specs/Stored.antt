-- What stored spellings keep. Assumes nothing.
use Rattle.std.specs.Prelude.{◌≡◌, ℕ, ◌<◌, List, map, take, slice_index_or}
use Rattle.syntax.specs.declared.spelling.Spelling.{Spelling as Stored}
use Rattle.syntax.specs.Syntax.{Spelling}
use Rattle.syntax.specs.Model.{spelling}

-- the first n of the stored spellings
abbrev pub spellings : List Stored → ℕ → List Spelling
spellings ws n = map spelling (take n ws)

-- no two of them are the same
abbrev pub Distinct : List Stored → ℕ → Type 0
Distinct ws n = (j k : ℕ) (d : Stored) → (j < k) × (k < n) → ¬ (spelling (slice_index_or ws j d) ≡ spelling (slice_index_or ws k d))
