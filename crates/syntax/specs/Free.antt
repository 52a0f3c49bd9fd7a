-- Bytes that a text lacks. Assumes nothing.
use Rattle.std.specs.Prelude.{◌≡◌, ℕ, ◌<◌, List, length, slice_index}

-- the byte does not stand in the text
abbrev pub FreeOf : ℕ → List ℕ → Type 0
FreeOf byte text = (k : ℕ) → k < length text → ¬ (slice_index text k ≡ byte)
