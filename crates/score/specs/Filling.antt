-- A table of sums that is filled in, stage by stage. Assumes nothing.
use Rattle.std.specs.Prelude.{◌≡◌, ℕ, ◌<◌, ◌≤◌, ◌⊎◌, List, length, slice_index_or}
use Rattle.grammar.specs.Grammar.{Rule, production_at, left_at, right_at}
use Rattle.scales.specs.Scales.{Scale}
use Rattle.score.specs.declared.input.Input.{Input}
use Rattle.score.specs.declared.sums.Sums.{Sums}
use Rattle.score.specs.Inputs.{productions_in, words_in, Inside, index_in, entries_in, WaitsIn, stage_in, Given}

-- what the table holds for the dot k of the production p, the origin i and the end j
abbrev pub held : {S : Type 0} → Scale S → Input → List S → ℕ → ℕ → ℕ → ℕ → S
held s x table p k i j = slice_index_or table (index_in x p k i j) s.none

-- the entry of the complete production q, times the value of its price
abbrev pub whole_of : {S : Type 0} → Scale S → Input → List S → ℕ → ℕ → ℕ → S
whole_of s x table q i j =
    s.times (s.value (production_at (productions_in x) q).price) (held s x table q (length (right_at (productions_in x) q)) i j)

-- v is what the production q adds at position k of p to the sum over the words from i to j, split at m
pub record Term {S : Type 0} (s : Scale S) (x : Input) (table : List S) (p k i m j q : ℕ) (v : S) : Type 0 where
  pub may : WaitsIn x p k q → v ≡ s.times (held s x table p k i m) (whole_of s x table q m j)
  pub not : (¬ WaitsIn x p k q) → v ≡ s.none

-- the same for every production
abbrev pub Terms : {S : Type 0} → Scale S → Input → List S → ℕ → ℕ → ℕ → ℕ → ℕ → (ℕ → S) → Type 0
Terms s x table p k i m j f = (q : ℕ) → q < length (productions_in x) → Term s x table p k i m j q (f q)

-- every entry is the sum or still none, and those before the stage are the sums
pub record Right {S : Type 0} (s : Scale S) (x : Input) (W : ℕ → ℕ → ℕ → ℕ → S) (table : List S) (stage : ℕ) : Type 0 where
  pub part : (p k i j : ℕ) → Inside x p k i j → (held s x table p k i j ≡ W p k i j) ⊎ (held s x table p k i j ≡ s.none)
  pub done : (p k i j : ℕ) → Inside x p k i j → i ≤ j → stage_in x p k i j < stage → held s x table p k i j ≡ W p k i j

-- v is the sum over the ways of the dot k of p from i to j, if the table is right before it
abbrev pub Makes : {S : Type 0} → Scale S → Input → List S → ℕ → ℕ → ℕ → ℕ → S → Type 0
Makes {S} s x table p k i j v =
    (start : ℕ) (rs : List Rule) (W : ℕ → ℕ → ℕ → ℕ → S) →
    Given s x start rs W →
    Right s x W table (stage_in x p k i j) →
    v ≡ W p k i j

-- what the sums are taken over and the slice that they lie in stay
abbrev pub Kept : {S : Type 0} → Sums S → Sums S → Type 0
Kept before after = (after.input ≡ before.input) × (after.table.ghost_name ≡ before.table.ghost_name)

-- a table that is right before a stage becomes right before another one, and nothing past the entries changes
pub record Fills {S : Type 0} (s : Scale S) (x : Input) (before after : List S) (from to : ℕ) : Type 0 where
  pub size : length after ≡ length before
  pub later : (k : ℕ) (d : S) → entries_in x ≤ k → slice_index_or after k d ≡ slice_index_or before k d
  pub right :
      (start : ℕ) (rs : List Rule) (W : ℕ → ℕ → ℕ → ℕ → S) →
      Given s x start rs W →
      Right s x W before from →
      Right s x W after to

-- the first n entries are none, and the others as they were
pub record Blank {S : Type 0} (s : Scale S) (n : ℕ) (before after : List S) : Type 0 where
  pub size : length after ≡ length before
  pub none : (k : ℕ) → k < n → slice_index_or after k s.none ≡ s.none
  pub later : (k : ℕ) (d : S) → n ≤ k → slice_index_or after k d ≡ slice_index_or before k d

-- every entry is the sum, and nothing past the entries changes
pub record AllRight {S : Type 0} (s : Scale S) (x : Input) (before after : List S) : Type 0 where
  pub size : length after ≡ length before
  pub later : (k : ℕ) (d : S) → entries_in x ≤ k → slice_index_or after k d ≡ slice_index_or before k d
  pub right :
      (start : ℕ) (rs : List Rule) (W : ℕ → ℕ → ℕ → ℕ → S) →
      Given s x start rs W →
      (p k i j : ℕ) →
      Inside x p k i j →
      held s x after p k i j ≡ W p k i j

-- v is what the production p adds to the score: its sum over all the words, if its left side is the start symbol
pub record Root {S : Type 0} (s : Scale S) (x : Input) (table : List S) (start p : ℕ) (v : S) : Type 0 where
  pub starts : left_at (productions_in x) p ≡ start → v ≡ whole_of s x table p 0 (length (words_in x))
  pub other : (¬ (left_at (productions_in x) p ≡ start)) → v ≡ s.none
