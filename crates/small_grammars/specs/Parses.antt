-- The smallest listing of given words, how many trees they have, and what they cost. Assumes nothing.
use Rattle.std.specs.Prelude.{◌≡◌, ℕ, List, length}
use Rattle.grammar.specs.Grammar.{Grammar}
use Rattle.grammar.specs.Trees.{Tree}
use Rattle.theory.specs.Claims.{Parse}
use Rattle.listing_theory.specs.declared.record.Record.{Record}
use Rattle.listing_theory.specs.Listings.{listing, Smallest}
use Rattle.score_theory.specs.Totals.{Enumerates}
use Rattle.score_theory.specs.Scores.{Score}
use Rattle.scales.specs.declared.values.Count.{Count}
use Rattle.scales.specs.declared.values.Price.{Price}
use Rattle.scales.specs.ThreeScales.{count, price}

-- a record, by the number of its production, which counts from 1, and where its words begin and end
abbrev pub row : ℕ → ℕ → ℕ → Record
row p i j = record { production = p; start = i; end = j }

-- xs is the smallest listing of a conflict-free tree of the words
abbrev pub Lists : Grammar → List ℕ → List Record → Type 0
Lists g ws xs = (t : Tree) × Smallest g ws t × (listing 0 t ≡ xs)

-- the words have n conflict-free trees, and this is their score on the scale of counts
pub record Trees (g : Grammar) (ws : List ℕ) (n : ℕ) : Type 0 where
  pub members : List Tree
  pub all : Enumerates (Parse g ws) members
  pub many : length members ≡ n
  pub scored : (v : Count) × Score count g ws v × (v.value ≡ n)

-- the score of the words on the scale of prices is n
abbrev pub Costs : Grammar → List ℕ → ℕ → Type 0
Costs g ws n = (v : Price) × Score price g ws v × (v.value ≡ n)
