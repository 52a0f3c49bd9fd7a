-- The symbols of a right side as they are written. Assumes nothing.
use Rattle.std.specs.Prelude.{ℕ, ◌+◌, ◌<◌, ◌≤◌, List, [], ◌∷◌, ◌++◌, length, slice_index}
use Rattle.std.specs.List.{flat_map}
use Rattle.syntax.specs.Syntax.{Spelling, Symbol, symbol_text}

-- every kind among the symbols has a spelling
abbrev pub AllSpelled : List Spelling → List ℕ → Type 0
AllSpelled ws xs = (k : ℕ) → k < length xs → slice_index xs k < 16 + length ws

-- a kind among the symbols has none
abbrev pub SomeUnspelled : List Spelling → List ℕ → Type 0
SomeUnspelled ws xs = (k : ℕ) × (k < length xs) × (16 + length ws ≤ slice_index xs k)

-- a written symbol with the space behind it
abbrev pub symbol_part : Symbol → List ℕ
symbol_part s = symbol_text s ++ 32 ∷ []

-- the written symbols, each with the space behind it
abbrev pub symbol_parts : List Symbol → List ℕ
symbol_parts ss = flat_map symbol_part ss
