-- A grammar with the spellings of its kinds, and what its symbols are written as. Assumes nothing.
use Rattle.std.specs.Prelude.{◌≡◌, ℕ, ◌+◌, ◌-◌, ◌<◌, ◌≤◌, cond, ◌⊎◌, List, [], ◌∷◌, ◌++◌, length, Result, nat_lt, slice_index, slice_index_or}
use Rattle.grammar.specs.declared.refusals.FileRefusal.{FileRefusal}
use Rattle.grammar.specs.declared.refusals.Refusal.TheVariants.{File}
use Rattle.grammar.specs.Grammar.{Grammar, right_at}
use Rattle.grammar.specs.Sound.{WellFormed}
use Rattle.grammar.specs.Refusals.{Answered}
use Rattle.syntax.specs.Syntax.{Spelling, name, Symbol, nonterminal, spelled, ValidSpelling}

-- the spelling of index k is that of the kind 16 + k
pub record Spelled : Type 0 where
  pub draft : Grammar
  pub spellings : List Spelling

-- w is the spelling of index k, and of no index before it
pub record First (ws : List Spelling) (w : Spelling) (k : ℕ) : Type 0 where
  pub within : k < length ws
  pub is : slice_index_or ws k name ≡ w
  pub new : (j : ℕ) → j < k → ¬ (slice_index_or ws j name ≡ w)

-- w is among the spellings
abbrev pub Declared : List Spelling → Spelling → Type 0
Declared ws w = (k : ℕ) × First ws w k

-- why a spelling is refused: it is there, or there are 32
pub data DeclareCause (ws : List Spelling) (w : Spelling) : ℕ → Type 0 where
  declared_before : Declared ws w → DeclareCause ws w 19
  spellings_full : 32 ≤ length ws → DeclareCause ws w 19

-- the answer to a spelling: the kind that it spells
abbrev pub Declares : List Spelling → Spelling → Result ℕ FileRefusal → List Spelling → Type 0
Declares ws w = Answered File (DeclareCause ws w) (λ v after. (v ≡ 16 + length ws) × (after ≡ ws ++ w ∷ [])) ws

-- the written symbol stands for the symbol x
abbrev pub StandsFor : List Spelling → Symbol → ℕ → Type 0
StandsFor ws (nonterminal s) x = x ≡ s
StandsFor ws (spelled w) x = (k : ℕ) × First ws w k × (x ≡ 16 + k)

-- and the written symbols for a right side
abbrev pub RightSide : List Spelling → List Symbol → List ℕ → Type 0
RightSide ws [] xs = xs ≡ []
RightSide ws (s ∷ ss) xs = (x : ℕ) × (rest : List ℕ) × StandsFor ws s x × RightSide ws ss rest × (xs ≡ x ∷ rest)

-- a spelling of the written symbols is not declared
abbrev pub Unknown : List Spelling → Symbol → Type 0
Unknown ws (nonterminal s) = ⊥
Unknown ws (spelled w) = ¬ Declared ws w

abbrev pub Undeclared : List Spelling → List Symbol → Type 0
Undeclared ws [] = ⊥
Undeclared ws (s ∷ ss) = Unknown ws s ⊎ Undeclared ws ss

-- a kind that a production uses has no spelling
abbrev pub Unspelled : Spelled → Type 0
Unspelled s =
    (p : ℕ) × (k : ℕ) × (p < length s.draft.productions) × (k < length (right_at s.draft.productions p))
    × (16 + length s.spellings ≤ slice_index (right_at s.draft.productions p) k)

-- no two spellings are the same, each is valid, and there are at most 32
pub record SoundSpellings (ws : List Spelling) : Type 0 where
  pub few : length ws ≤ 32
  pub valid : (k : ℕ) → k < length ws → ValidSpelling (slice_index_or ws k name)
  pub once : (j k : ℕ) → j < k → k < length ws → ¬ (slice_index_or ws j name ≡ slice_index_or ws k name)

-- what every spelled draft has
pub record SoundSpelled (s : Spelled) : Type 0 where
  pub draft : WellFormed s.draft
  pub spellings : SoundSpellings s.spellings

-- how a symbol is written
abbrev pub written : List Spelling → ℕ → Symbol
written ws x = cond (nat_lt x 16) (nonterminal x) (spelled (slice_index_or ws (x - 16) name))
