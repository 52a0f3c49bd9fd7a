-- Sets of places, as numbers and in cells: what comes in, and what is left out. Assumes nothing.
use Rattle.std.specs.Prelude.{◌≡◌, ℕ, ◌+◌, ◌-◌, ◌*◌, ◌/◌, ◌^◌, ◌<◌, ◌≤◌, Bool, false, cond, ◌⊎◌, ◌↔◌, List, sum_by, slice_index}
use Rattle.bitset.specs.Bits.{Has}
use Rattle.bitset.specs.Cells.{InSet}
use Rattle.chart.specs.Chart.{Marked}

-- the places are the set of number x in the cells
abbrev pub IsSet : ℕ → List ℕ → ℕ → Type 0
IsSet p cells x = (d : ℕ) → d < 128 → Has p d ↔ InSet cells (2 * x) d

-- how much the cells may still grow
unfoldable pub room : List ℕ → ℕ
room cells = sum_by (λ c. 2 ^ 64 - 1 - c) cells

-- bits come in and none is lost; `r` tells whether anything changed
pub record Grows (a b : List ℕ) (r : Bool) : Type 0 where
  pub grows : (k e : ℕ) → Has (slice_index a k) e → Has (slice_index b k) e
  pub less : room b + cond r 1 0 ≤ room a
  pub quiet : r ≡ false → b ≡ a

-- the place d comes into the set at `to`
pub record Added (to d : ℕ) (a b : List ℕ) (r : Bool) : Type 0 where
  pub growth : Grows a b r
  pub other : (k : ℕ) → (¬ (k ≡ to + d / 64)) → slice_index b k ≡ slice_index a k
  pub makes : InSet b to d
  pub only : (e : ℕ) → e < 128 → InSet b to e → InSet a to e ⊎ (e ≡ d)

-- the places of the set at `from` that are in the mask come into the set at `to`, each one place up
pub record Advanced (to from : ℕ) (mask : ℕ) (a b : List ℕ) (r : Bool) : Type 0 where
  pub growth : Grows a b r
  pub other : (k : ℕ) → (¬ (k ≡ to)) → (¬ (k ≡ to + 1)) → slice_index b k ≡ slice_index a k
  pub makes : (d : ℕ) → d + 1 < 128 → InSet a from d → Has mask d → InSet b to (d + 1)
  pub only : (d : ℕ) → d < 128 → InSet b to d → InSet a to d ⊎ ((e : ℕ) × (d ≡ e + 1) × InSet a from e × Has mask e)

-- the cells from `start` to `end` are 0, and the others as they were
pub record Cleared (start end : ℕ) (a b : List ℕ) : Type 0 where
  pub other : (k : ℕ) → (k < start) ⊎ (end ≤ k) → slice_index b k ≡ slice_index a k
  pub blank : (k : ℕ) → start ≤ k → k < end → slice_index b k ≡ 0

-- the places come into the set at `to`
pub record Joined (to : ℕ) (p : ℕ) (a b : List ℕ) (r : Bool) : Type 0 where
  pub growth : Grows a b r
  pub other : (k : ℕ) → (¬ (k ≡ to)) → (¬ (k ≡ to + 1)) → slice_index b k ≡ slice_index a k
  pub holds : (d : ℕ) → d < 128 → InSet b to d ↔ (InSet a to d ⊎ Has p d)

-- each place is marked in column j at an origin before n
abbrev pub Seen : List ℕ → ℕ → ℕ → ℕ → Type 0
Seen cells j n p = (d : ℕ) → d < 128 → Has p d → (i : ℕ) × (i < n) × Marked cells i j d

-- the places are just those that column j marks at the origins before n
pub record Gathered (cells : List ℕ) (j n : ℕ) (p : ℕ) : Type 0 where
  pub all : (i d : ℕ) → i < n → d < 128 → Marked cells i j d → Has p d
  pub only : Seen cells j n p

-- there is a place that is in both sets
abbrev pub Meets : ℕ → ℕ → Type 0
Meets p q = (d : ℕ) × (d < 128) × Has p d × Has q d
