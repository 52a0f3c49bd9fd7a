-- What the tables of a grammar hold. Assumes nothing.
use Rattle.std.specs.Prelude.{◌≡◌, ℕ, suc, ◌+◌, ◌-◌, ◌*◌, ◌<◌, ◌≤◌, ◌↔◌, length, slice_index}
use Rattle.bitset.specs.Bits.{Has}
use Rattle.grammar.specs.Grammar.{Grammar, Nonterminal, At, Known, left_of, right_of, size_of}
use Rattle.grammar.specs.Order.{Conflict}
use Rattle.grammar.specs.Derivations.{Leads}
use Rattle.grammar.specs.Items.{Live}
use Rattle.tables.specs.declared.tables.Tables.{Tables}
use Rattle.tables.specs.Sets.{InSet}

abbrev pub first_of : Tables → ℕ → ℕ
first_of t p = slice_index t.first p

abbrev pub last_of : Tables → ℕ → ℕ
last_of t p = slice_index t.last p

-- the place d waits for the production q
abbrev pub Waits : Tables → ℕ → ℕ → Type 0
Waits t q d = InSet t.waits (2 * q) d

-- the place d waits for the kind 16 + a
abbrev pub Before : Tables → ℕ → ℕ → Type 0
Before t a d = InSet t.before (2 * a) d

abbrev pub Alive : Tables → ℕ → Type 0
Alive t q = Has t.live q

-- d is not past the last place
abbrev pub Placed : Tables → ℕ → Type 0
Placed t d = (0 < t.count) × (d ≤ last_of t (t.count - 1))

-- the tables are those of the grammar
pub record Means (t : Tables) (g : Grammar) : Type 0 where
  pub known : t.count ≡ length g.productions
  pub start : first_of t 0 ≡ 0
  pub next : (p : ℕ) → Known g (suc p) → first_of t (suc p) ≡ last_of t p + 1
  pub final : (p : ℕ) → Known g p → last_of t p ≡ first_of t p + size_of g p
  pub waits :
      (p k q : ℕ) →
      Known g p →
      k ≤ size_of g p →
      Known g q →
      Waits t q (first_of t p + k) ↔ (At (right_of g p) k (left_of g q) × Nonterminal (left_of g q) × (¬ Conflict g p k q))
  pub short : (q d : ℕ) → Known g q → d < 128 → Waits t q d → Placed t d
  pub lives : (q : ℕ) → Known g q → Alive t q ↔ Live g q
  pub kinds_short : (a d : ℕ) → a < 32 → d < 128 → Before t a d → Placed t d
  pub starts : (p : ℕ) → Known g p → Has t.starts p ↔ (Live g p × (left_of g p ≡ g.start))
  pub befores : (p k a : ℕ) → Known g p → k ≤ size_of g p → a < 32 → Before t a (first_of t p + k) ↔ At (right_of g p) k (16 + a)
  pub ranks : (A B : ℕ) → Leads g.productions A B → slice_index t.ranks B < slice_index t.ranks A
  pub ranks_small : (A : ℕ) → slice_index t.ranks A ≤ 16

-- the same as a proposition, which a struct that holds tables and their grammar can keep in a ghost field
abbrev pub Meant : Tables → Grammar → Type 0
Meant t g = ∥ Means t g ∥₁
