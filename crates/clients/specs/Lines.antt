-- What putting several kinds one by one answers and leaves. Assumes nothing.
use Rattle.std.specs.Prelude.{◌≡◌, ℕ, ◌≤◌, List, ◌++◌, length, Ok, Err, Result}
use Rattle.grammar.specs.declared.refusals.ReadingRefusal.{ReadingRefusal}
use Rattle.grammar.specs.declared.refusals.ReadingRefusal.TheVariants.{ShortChart}
use Rattle.grammar.specs.Grammar.{Grammar}
use Rattle.grammar.specs.Trees.{Tree, Whole}
use Rattle.grammar.specs.Trees.{words as tree_words}
use Rattle.reading.specs.declared.reading.Reading.{Reading}
use Rattle.reading.specs.Readings.{words, cells, grammar_of, Long, Marks}

-- the words of some conflict-free tree of the grammar begin with ws
abbrev pub Front : Grammar → List ℕ → Type 0
Front g ws = (t : Tree) × (rest : List ℕ) × Whole g t × (tree_words t ≡ ws ++ rest)

-- Putting kinds one by one, up to the first refusal. On a chart that marks the standing words: where all are put, they stand last; and all
-- are put where a tree's words begin with those that then stand, at most 48. On a short chart the only refusal is that it is short.
pub record PutAll (before : Reading) (kinds : List ℕ) (r : Result (Unit {0}) ReadingRefusal) (after : Reading) : Type 0 where
  pub grammar : after.grammar.now ≡ before.grammar.now
  pub size : length (cells after) ≡ length (cells before)
  pub short : (¬ Long (cells before)) → (e : ReadingRefusal) → r ≡ Err e → e ≡ ShortChart
  pub marks : Long (cells before) → Marks before → Marks after
  pub stand : Long (cells before) → Marks before → r ≡ Ok tt → words after ≡ words before ++ kinds
  pub taken : Long (cells before) → Marks before → Front (grammar_of before) (words before ++ kinds) → length (words before ++ kinds) ≤ 48 → r ≡ Ok tt
