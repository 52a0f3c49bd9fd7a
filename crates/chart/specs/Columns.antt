-- The steps on a column, and when a column is closed. Assumes nothing.
use Rattle.std.specs.Prelude.{◌≡◌, ℕ, suc, ◌+◌, ◌<◌, ◌≤◌, Bool, false, ◌⊎◌, List, slice_index}
use Rattle.std.specs.Borrow.{MutBor}
use Rattle.bitset.specs.Bits.{Has}
use Rattle.grammar.specs.Grammar.{Grammar, Kind, At, left_of, right_of}
use Rattle.grammar.specs.Items.{Live, Item}
use Rattle.tables.specs.declared.tables.Tables.{Tables}
use Rattle.tables.specs.Meaning.{first_of, last_of, Waits, Before, Alive, Means}
use Rattle.chart.specs.Chart.{cell_of, Marked, Sound}
use Rattle.chart.specs.Cells.{Grows}
use Rattle.chart.specs.declared.column.Column.{Column}

-- the cell k is not of column j
abbrev pub Outside : ℕ → ℕ → Type 0
Outside j k = (k < cell_of 0 j) ⊎ (cell_of 0 (j + 1) ≤ k)

-- a step in column j that marks only derivable items
pub record Moves (t : Tables) (j : ℕ) (a b : List ℕ) (r : Bool) : Type 0 where
  pub growth : Grows a b r
  pub other : (k : ℕ) → Outside j k → slice_index b k ≡ slice_index a k
  pub sound : (g : Grammar) (ws : List ℕ) → Means t g → Sound t g ws a → Sound t g ws b

-- a step in the column
abbrev pub Moved : Column → List ℕ → List ℕ → Bool → Type 0
Moved c a b r = Moves c.tables.now c.end a b r

-- steps in the column lead from a to b
abbrev pub Since : Column → List ℕ → List ℕ → Type 0
Since c a b = (r : Bool) × Moved c a b r

-- the step of the number k may leave the cells as they are, and say so
abbrev pub Quiet : (MutBor (List ℕ) → ℕ → Bool → MutBor (List ℕ) → Type 0) → List ℕ → ℕ → Type 0
Quiet post cells k = (a : MutBor (List ℕ)) × (b : MutBor (List ℕ)) × (a.now ≡ cells) × (b.now ≡ cells) × post a k false b

-- the items with origin i that wait at s for the production q have moved on to the column
abbrev pub MovedOn : Column → ℕ → ℕ → List ℕ → ℕ → Type 0
MovedOn c s q cells i = (d : ℕ) → d + 1 < 128 → Marked cells i s d → Waits c.tables.now q d → Marked cells i c.end (d + 1)

abbrev pub AllMoved : Column → ℕ → ℕ → List ℕ → Type 0
AllMoved c s q cells = (i : ℕ) → i < s + 1 → MovedOn c s q cells i

-- if the column has q complete from s on, the items that wait for it at s have moved on
abbrev pub ProductionDone : Column → ℕ → List ℕ → ℕ → Type 0
ProductionDone c s cells q = Marked cells s c.end (last_of c.tables.now q) → AllMoved c s q cells

abbrev pub OriginDone : Column → List ℕ → ℕ → Type 0
OriginDone c cells s = (q : ℕ) → q < c.tables.now.count → ProductionDone c s cells q

-- completion adds nothing more to the column
abbrev pub Completed : Column → List ℕ → Type 0
Completed c cells = (s : ℕ) → s < c.end + 1 → OriginDone c cells s

-- if the live production q is waited for in the column, it begins there
abbrev pub PredictionDone : Column → List ℕ → ℕ → Type 0
PredictionDone c cells q =
    Alive c.tables.now q → (i d : ℕ) → i < c.end + 1 → d < 128 → Marked cells i c.end d → Waits c.tables.now q d →
    Marked cells c.end c.end (first_of c.tables.now q)

-- prediction adds nothing more to the column
abbrev pub Predicted : Column → List ℕ → Type 0
Predicted c cells = (q : ℕ) → q < c.tables.now.count → PredictionDone c cells q

-- if one of the places waits for the live production q, it begins in the column
abbrev pub Begun : Column → ℕ → List ℕ → ℕ → Type 0
Begun c p cells q =
    Alive c.tables.now q → (d : ℕ) → d < 128 → Has p d → Waits c.tables.now q d →
    Marked cells c.end c.end (first_of c.tables.now q)

-- the items that end before n are marked
abbrev pub Full : Tables → Grammar → List ℕ → List ℕ → ℕ → Type 0
Full t g ws cells n = (p k i e : ℕ) → e < n → Item g ws p k i e → Marked cells i e (first_of t p + k)

-- what column j has before it is closed: the first items of the start symbol, or those that the word before it moves on
pub record Based (t : Tables) (g : Grammar) (ws cells : List ℕ) (j : ℕ) : Type 0 where
  pub inits : (p : ℕ) → j ≡ 0 → Live g p → left_of g p ≡ g.start → Marked cells 0 0 (first_of t p)
  pub scans :
      (p k h i a : ℕ) →
      j ≡ suc i →
      Item g ws p k h i →
      At (right_of g p) k a →
      Kind a →
      At ws i a →
      Marked cells h j (first_of t p + suc k)

-- column j is closed
abbrev pub Closes : Tables → ℕ → List ℕ → List ℕ → Type 0
Closes t j before after =
    (g : Grammar) (ws : List ℕ) →
    Means t g →
    Based t g ws before j →
    Full t g ws before j →
    Sound t g ws before →
    Full t g ws after (j + 1) × Sound t g ws after

-- the items of column j with an origin before n that wait for the kind have moved on to j + 1
pub record Scanned (t : Tables) (j kind n : ℕ) (a b : List ℕ) : Type 0 where
  pub grows : (k e : ℕ) → Has (slice_index a k) e → Has (slice_index b k) e
  pub other : (k : ℕ) → Outside (j + 1) k → slice_index b k ≡ slice_index a k
  pub sound : (g : Grammar) (ws : List ℕ) → Means t g → At ws j (16 + kind) → Sound t g ws a → Sound t g ws b
  pub makes : (i d : ℕ) → i < n → d + 1 < 128 → Marked a i j d → Before t kind d → Marked b i (j + 1) (d + 1)

-- the start productions before n begin at 0
pub record Started (t : Tables) (n : ℕ) (a b : List ℕ) : Type 0 where
  pub moved : (r : Bool) × Moves t 0 a b r
  pub makes : (p : ℕ) → p < n → Has t.starts p → Marked b 0 0 (first_of t p)

-- the production q has a complete item of the start symbol that spans n words
abbrev pub Ends : Tables → ℕ → List ℕ → ℕ → Type 0
Ends t n cells q = Has t.starts q × Marked cells 0 n (last_of t q)
