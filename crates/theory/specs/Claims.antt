-- What live productions and items say of conflict-free trees. Assumes nothing.
use Rattle.std.specs.Prelude.{◌≡◌, ℕ, ◌+◌, ◌≤◌, ◌↔◌, List, ◌∷◌, ◌++◌, length, take}
use Rattle.grammar.specs.Grammar.{Grammar, Kind, At, left_of, right_of, size_of}
use Rattle.grammar.specs.Trees.{Tree, Forest, words, words_of, Covers, Free, Whole}
use Rattle.grammar.specs.Items.{Live, Item}

-- a production is live exactly if some conflict-free tree has it at its root
abbrev pub LiveRoots : Type 0
LiveRoots = (g : Grammar) (p : ℕ) → Live g p ↔ ((t : Tree) × Free g p t)

-- a complete item of a start production spans all the words
abbrev pub Accepted : Grammar → List ℕ → Type 0
Accepted g ws = (p : ℕ) × Item g ws p (size_of g p) 0 (length ws) × (left_of g p ≡ g.start)

-- t is a conflict-free tree of the grammar with exactly these words
abbrev pub Parse : Grammar → List ℕ → Tree → Type 0
Parse g ws t = Whole g t × (words t ≡ ws)

-- the words have such a tree
abbrev pub Sentence : Grammar → List ℕ → Type 0
Sentence g ws = (t : Tree) × Whole g t × (words t ≡ ws)

-- the accepted lists of words are the sentences
abbrev pub Sentences : Type 0
Sentences = (g : Grammar) (ws : List ℕ) → Accepted g ws ↔ Sentence g ws

-- some item of the last column waits for the kind a
abbrev pub Awaited : Grammar → List ℕ → ℕ → Type 0
Awaited g ws a = (p : ℕ) × (k : ℕ) × (i : ℕ) × Item g ws p k i (length ws) × At (right_of g p) k a

-- the words of some conflict-free tree of the grammar begin with ws and then a
abbrev pub Viable : Grammar → List ℕ → ℕ → Type 0
Viable g ws a = (t : Tree) × (rest : List ℕ) × Whole g t × (words t ≡ ws ++ (a ∷ rest))

-- the awaited kinds are the viable ones
abbrev pub ViableKinds : Type 0
ViableKinds = (g : Grammar) (ws : List ℕ) (a : ℕ) → Kind a → Awaited g ws a ↔ Viable g ws a

-- a conflict-free way through the first k symbols of p has the words from i to j
abbrev pub Spans : Grammar → List ℕ → ℕ → ℕ → ℕ → ℕ → Type 0
Spans g ws p k i j = (f : Forest) × Covers g p k f × (j ≤ length ws) × (take j ws ≡ take i ws ++ words_of f)

-- us are the words from i to j
abbrev pub Spells : List ℕ → ℕ → ℕ → List ℕ → Type 0
Spells ws i j us = (j ≡ i + length us) × (j ≤ length ws) × (take j ws ≡ take i ws ++ us)

-- an item is derivable exactly if its production is predicted at i and its first k symbols span the words from i to j
abbrev pub ItemsExact : Type 0
ItemsExact = (g : Grammar) (ws : List ℕ) (p k i j : ℕ) → Item g ws p k i j ↔ (Item g ws p 0 i i × Spans g ws p k i j)
