-- The ends of right sides that may be empty. Assumes nothing.
use Rattle.std.specs.Prelude.{ℕ, ◌<◌, ◌≤◌, List, length, slice_index}
use Rattle.grammar.specs.Grammar.{Production, At, right_at}
use Rattle.grammar.specs.Derivations.{Nullable}

-- t is the least position from which on every symbol of xs has P
pub record Tail (P : ℕ → Type 0) (xs : List ℕ) (t : ℕ) : Type 0 where
  pub within : t ≤ length xs
  pub behind : (k y : ℕ) → t ≤ k → At xs k y → P y
  pub least : (k : ℕ) → ((m y : ℕ) → k ≤ m → At xs m y → P y) → t ≤ k

-- the list has, for each production, the least position from which on every symbol derives the empty list
abbrev pub Tails : List Production → List ℕ → Type 0
Tails ps ts = (p : ℕ) → p < length ps → Tail (Nullable ps) (right_at ps p) (slice_index ts p)
