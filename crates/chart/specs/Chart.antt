-- The items that a chart marks. Assumes nothing.
use Rattle.std.specs.Prelude.{◌≡◌, ℕ, ◌+◌, ◌*◌, ◌<◌, ◌≤◌, List, length, slice_index}
use Rattle.grammar.specs.Grammar.{Grammar}
use Rattle.grammar.specs.Items.{Item}
use Rattle.tables.specs.declared.tables.Tables.{Tables}
use Rattle.bitset.specs.Cells.{InSet}
use Rattle.tables.specs.Meaning.{first_of, Means}

-- the first of the two cells for the items with origin i and end j
abbrev pub cell_of : ℕ → ℕ → ℕ
cell_of i j = 2 * (49 * j + i)

-- the place d is marked at origin i and end j
abbrev pub Marked : List ℕ → ℕ → ℕ → ℕ → Type 0
Marked cells i j d = InSet cells (cell_of i j) d

-- a derivable item with origin i and end j has the place d
pub record ItemAt (t : Tables) (g : Grammar) (ws : List ℕ) (i j d : ℕ) : Type 0 where
  pub production : ℕ
  pub dot : ℕ
  pub place : d ≡ first_of t production + dot
  pub item : Item g ws production dot i j

-- what is marked in the first 4802 cells are derivable items
abbrev pub Sound : Tables → Grammar → List ℕ → List ℕ → Type 0
Sound t g ws cells = (i j d : ℕ) → i ≤ 48 → j ≤ 48 → d < 128 → Marked cells i j d → ItemAt t g ws i j d

-- the cells mark the derivable items of the words and nothing else
pub record Charted (t : Tables) (g : Grammar) (ws cells : List ℕ) : Type 0 where
  pub only : Sound t g ws cells
  pub all : (p k i j : ℕ) → Item g ws p k i j → Marked cells i j (first_of t p + k)

-- P holds of every grammar of the tables and every n words whose chart the cells are
abbrev pub WhereCharted : Tables → ℕ → List ℕ → (Grammar → List ℕ → Type 0) → Type 0
WhereCharted t n cells P = (g : Grammar) (ws : List ℕ) → Means t g → length ws ≡ n → Charted t g ws cells → P g ws

-- the cells past the chart are as they were
abbrev pub RestKept : List ℕ → List ℕ → Type 0
RestKept before after = (k : ℕ) → 4802 ≤ k → slice_index after k ≡ slice_index before k
