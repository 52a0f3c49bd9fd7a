-- What the sums are taken over: a grammar's tables and productions, and the words. Assumes nothing.
use Rattle.std.specs.Prelude.{ℕ, ◌+◌, ◌-◌, ◌*◌, ◌<◌, ◌≤◌, cond, List, length, nat_lt, slice_index}
use Rattle.grammar.specs.Grammar.{Production, Rule, Grammar, left_at, right_at, places}
use Rattle.grammar.specs.Model.{productions as productions_of}
use Rattle.grammar.specs.Sound.{WellFormed}
use Rattle.tables.specs.Meaning.{Means, Waits}
use Rattle.tables.specs.Places.{first_place}
use Rattle.scales.specs.Scales.{Scale}
use Rattle.score_theory.specs.Weights.{Weights}
use Rattle.score.specs.Filled.{entry_at}
use Rattle.score.specs.declared.input.Input.{Input}
use Rattle.score.specs.declared.entry.Entry.{Entry}
use Rattle.score.specs.declared.entry.Span.{Span}

-- the productions
abbrev pub productions_in : Input → List Production
productions_in x = productions_of x.productions.now

-- the words
abbrev pub words_in : Input → List ℕ
words_in x = x.words.now

-- the grammar, whatever its start symbol and its rules are
abbrev pub grammar_in : Input → ℕ → List Rule → Grammar
grammar_in x start rs = record { start = start; productions = productions_in x; rules = rs }

-- the dot k of the production p, the origin i and the end j have an entry
abbrev pub Inside : Input → ℕ → ℕ → ℕ → ℕ → Type 0
Inside x p k i j =
    (p < length (productions_in x)) × (k ≤ length (right_at (productions_in x) p)) × (i ≤ length (words_in x)) × (j ≤ length (words_in x))

-- the entry's production, dot and span have one
abbrev pub HasEntry : Input → Entry → Type 0
HasEntry x e = Inside x e.production e.dot e.span.start e.span.end

-- the place of the dot k of the production p
abbrev pub place_in : Input → ℕ → ℕ → ℕ
place_in x p k = first_place (productions_in x) p + k

-- the index of the entry
abbrev pub index_in : Input → ℕ → ℕ → ℕ → ℕ → ℕ
index_in x p k i j = entry_at (length (words_in x)) (place_in x p k) i j

-- how many entries there are
abbrev pub entries_in : Input → ℕ
entries_in x = places (productions_in x) * ((length (words_in x) + 1) * (length (words_in x) + 1))

-- the production q may stand at position k of the production p, by the tables
abbrev pub WaitsIn : Input → ℕ → ℕ → ℕ → Type 0
WaitsIn x p k q = Waits x.tables.now q (place_in x p k)

-- dots behind which every symbol may be empty come by the rank of the left side, and all others after them
abbrev pub level_in : Input → ℕ → ℕ → ℕ
level_in x p k = cond (nat_lt k (slice_index x.tails p)) 17 (slice_index x.tables.now.ranks (left_at (productions_in x) p))

-- the entries come by the length of their spans, then by origin, level, production and dot
abbrev pub stage : ℕ → ℕ → ℕ → ℕ → ℕ → ℕ
stage len i level p k = len * 1048576 + i * 16384 + level * 512 + p * 8 + k

-- the same for a span
abbrev pub stage_at : Span → ℕ → ℕ → ℕ → ℕ
stage_at span = stage (span.end - span.start) span.start

-- the stage at which the entry comes
abbrev pub stage_in : Input → ℕ → ℕ → ℕ → ℕ → ℕ
stage_in x p k i j = stage (j - i) i (level_in x p k) p k

-- the tables are those of a well-formed grammar with this start symbol and these rules, and W has its sums
pub record Given {S : Type 0} (s : Scale S) (x : Input) (start : ℕ) (rs : List Rule) (W : ℕ → ℕ → ℕ → ℕ → S) : Type 0 where
  pub means : Means x.tables.now (grammar_in x start rs)
  pub formed : WellFormed (grammar_in x start rs)
  pub weights : Weights s (grammar_in x start rs) (words_in x) W
