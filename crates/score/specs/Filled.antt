-- The table of all sums over ways. Assumes nothing.
use Rattle.std.specs.Prelude.{◌≡◌, ℕ, ◌+◌, ◌*◌, ◌≤◌, List, length, slice_index_or}
use Rattle.grammar.specs.Grammar.{Grammar, Known, size_of, places}
use Rattle.tables.specs.Places.{first_place}
use Rattle.scales.specs.Scales.{Scale}
use Rattle.score_theory.specs.Scores.{Sums}

-- the entry of the place d, the origin i and the end j, where n words stand
abbrev pub entry_at : ℕ → ℕ → ℕ → ℕ → ℕ
entry_at n d i j = d * ((n + 1) * (n + 1)) + i * (n + 1) + j

-- the table holds the sums over all ways; what lies past it is as it was
pub record Filled {S : Type 0} (s : Scale S) (g : Grammar) (ws : List ℕ) (before after : List S) : Type 0 where
  pub size : length after ≡ length before
  pub entries :
      (p k i j : ℕ) →
      Known g p →
      k ≤ size_of g p →
      i ≤ length ws →
      j ≤ length ws →
      Sums s g ws p k i j (slice_index_or after (entry_at (length ws) (first_place g.productions p + k) i j) s.none)
  pub later : (x : ℕ) (d : S) → places g.productions * ((length ws + 1) * (length ws + 1)) ≤ x → slice_index_or after x d ≡ slice_index_or before x d
