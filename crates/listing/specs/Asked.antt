-- What is asked of tables, words and a chart, whatever they hold, and what the answers mean. Assumes nothing.
use Rattle.std.specs.Prelude.{◌≡◌, ℕ, ◌+◌, ◌-◌, ◌*◌, ◌<◌, ◌≤◌, min, ◌⊎◌, ◌↔◌, List, length, slice_index}
use Rattle.bitset.specs.Bits.{Has}
use Rattle.grammar.specs.Grammar.{Production, Grammar, left_at, right_at}
use Rattle.grammar.specs.Model.{productions}
use Rattle.grammar.specs.Sound.{WellFormed}
use Rattle.tables.specs.declared.tables.Tables.{Tables}
use Rattle.tables.specs.Meaning.{first_of, last_of, Waits, Means}
use Rattle.chart.specs.Chart.{Marked, Charted}
use Rattle.listing.specs.declared.sources.Sources.{Sources}
use Rattle.listing.specs.declared.node.Node.{Node}

-- the tables, the productions, the words and the cells of the chart
abbrev pub tables_in : Sources → Tables
tables_in s = s.tables.now

abbrev pub productions_in : Sources → List Production
productions_in s = productions s.productions.now

abbrev pub words_in : Sources → List ℕ
words_in s = s.words.now

abbrev pub cells_in : Sources → List ℕ
cells_in s = s.cells.now

-- the sources are the tables and the productions of the grammar, and the chart of the words
pub record OfGrammar (s : Sources) (g : Grammar) : Type 0 where
  pub means : Means (tables_in s) g
  pub same : g.productions ≡ productions_in s
  pub formed : WellFormed g
  pub charted : Charted (tables_in s) g (words_in s) (cells_in s)

-- the right side of p, and the symbol at position k of it
abbrev pub right_in : Sources → ℕ → List ℕ
right_in s p = right_at (productions_in s) p

abbrev pub symbol_in : Sources → ℕ → ℕ → ℕ
symbol_in s p k = slice_index (right_in s p) k

-- the chart has the item of p with the dot at k, over the words from i to j
abbrev pub Begun : Sources → ℕ → ℕ → ℕ → ℕ → Type 0
Begun s p k i j = (first_of (tables_in s) p + k < 128) × Marked (cells_in s) i j (first_of (tables_in s) p + k)

-- the chart has the complete item of q over the words from i to j
abbrev pub Whole : Sources → ℕ → ℕ → ℕ → Type 0
Whole s q i j = Marked (cells_in s) i j (last_of (tables_in s) q)

-- by the tables q may stand at position k of p
abbrev pub Fits : Sources → ℕ → ℕ → ℕ → Type 0
Fits s p k q = (first_of (tables_in s) p + k < 128) × Waits (tables_in s) q (first_of (tables_in s) p + k)

-- the rank of the left side of p, at most 16
abbrev pub rank_in : Sources → ℕ → ℕ
rank_in s p = min (slice_index (tables_in s).ranks (left_at (productions_in s) p)) 16

-- what falls from a node to its children: the number of its words, then its rank
abbrev pub weight : Sources → ℕ → ℕ → ℕ → ℕ
weight s p i j = (j - i) * 17 + rank_in s p

-- the node is of the production q over the same sources, and its words begin at i
abbrev pub IsNode : Node → Sources → ℕ → ℕ → Type 0
IsNode n s q i = (n.sources ≡ s) × (n.production ≡ q) × (n.start ≡ i)

-- the chart has q whole over the words from e to m, m is a position of `next`, and q weighs less there than the node
abbrev pub CanBe : Node → ℕ → ℕ → ℕ → ℕ → Type 0
CanBe n next q e m = Has next m × Whole n.sources q e m × (weight n.sources q e m < weight n.sources n.production n.start n.end)

-- the node's child at position k can be of q, over the words from e to m; `next` has the positions where the symbols behind k can begin
pub record Choice (n : Node) (k e next q m : ℕ) : Type 0 where
  pub known : q < (tables_in n.sources).count
  pub fits : Fits n.sources n.production k q
  pub order : e ≤ m
  pub within : m ≤ n.end
  pub can : CanBe n next q e m

-- q from e on first ends at m
pub record FirstEnd (n : Node) (e next q m : ℕ) : Type 0 where
  pub order : e ≤ m
  pub within : m ≤ n.end
  pub can : CanBe n next q e m
  pub sooner : (l : ℕ) → e ≤ l → l < m → ¬ CanBe n next q e l

-- or ends nowhere
abbrev pub NoEnd : Node → ℕ → ℕ → ℕ → Type 0
NoEnd n e next q = (m : ℕ) → e ≤ m → m ≤ n.end → ¬ CanBe n next q e m

-- there is no such child of q
abbrev pub NoChild : Node → ℕ → ℕ → ℕ → ℕ → Type 0
NoChild n k e next q = Fits n.sources n.production k q → NoEnd n e next q

-- of all such children it has the smallest production, and for it the smallest end
pub record FirstChoice (n : Node) (k e next q m : ℕ) : Type 0 where
  pub known : q < (tables_in n.sources).count
  pub fits : Fits n.sources n.production k q
  pub first : FirstEnd n e next q m
  pub smaller : (r : ℕ) → r < q → NoChild n k e next r

-- there is no such child
abbrev pub NoChoice : Node → ℕ → ℕ → ℕ → Type 0
NoChoice n k e next = (q : ℕ) → q < (tables_in n.sources).count → NoChild n k e next q

-- the symbol at position k can stand from e on: a nonterminal by a child, a kind by the word at e
abbrev pub Opens : Node → ℕ → ℕ → ℕ → Type 0
Opens n k e next =
    ((symbol_in n.sources n.production k < 16) × ((q : ℕ) × ((m : ℕ) × Choice n k e next q m)))
    ⊎ ((16 ≤ symbol_in n.sources n.production k) × ((e < n.end) × ((slice_index (words_in n.sources) e ≡ symbol_in n.sources n.production k) × Has next (e + 1))))

-- the position e is of the row: the first k symbols of the node end there in the chart, and the symbol at k can stand there
abbrev pub InRow : Node → ℕ → ℕ → ℕ → Type 0
InRow n k next e = (n.start ≤ e) × (e ≤ n.end) × Begun n.sources n.production k n.start e × Opens n k e next

-- the row has exactly those positions
abbrev pub RowIs : Node → ℕ → ℕ → ℕ → Type 0
RowIs n k next row = (e : ℕ) → Has row e ↔ InRow n k next e

-- the rows from position k on: behind the last symbol only the node's end
pub record RowsFrom (n : Node) (k : ℕ) (rows : List ℕ) : Type 0 where
  pub last : (e : ℕ) → Has (slice_index rows (length (right_in n.sources n.production))) e ↔ (e ≡ n.end)
  pub each :
      (r : ℕ) → k ≤ r → r < length (right_in n.sources n.production) → RowIs n r (slice_index rows (r + 1)) (slice_index rows r)

-- p is a live production of the start symbol, and the chart has its complete item over all the words
abbrev pub Root : Sources → ℕ → Type 0
Root s p = Has (tables_in s).starts p × Whole s p 0 (length (words_in s))

-- it is the smallest one
pub record FirstRoot (s : Sources) (p : ℕ) : Type 0 where
  pub known : p < (tables_in s).count
  pub is : Root s p
  pub smaller : (r : ℕ) → r < p → ¬ Root s r

-- there is none
abbrev pub NoRoot : Sources → Type 0
NoRoot s = (p : ℕ) → p < (tables_in s).count → ¬ Root s p
