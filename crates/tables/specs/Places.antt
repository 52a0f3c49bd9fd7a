-- The places of productions: a production has one for each position of the dot, and the productions follow each other. Assumes nothing.
use Rattle.std.specs.Prelude.{◌≡◌, ℕ, ◌+◌, ◌<◌, List, length, take, slice_index}
use Rattle.grammar.specs.Grammar.{Production, right_at, places}

-- the first place of the production of index p
abbrev pub first_place : List Production → ℕ → ℕ
first_place ps p = places (take p ps)

-- the last place of it
abbrev pub last_place : List Production → ℕ → ℕ
last_place ps p = first_place ps p + length (right_at ps p)

-- the list has the first places, or the last ones
abbrev pub Firsts : List Production → List ℕ → Type 0
Firsts ps first = (p : ℕ) → p < length ps → slice_index first p ≡ first_place ps p

abbrev pub Lasts : List Production → List ℕ → Type 0
Lasts ps last = (p : ℕ) → p < length ps → slice_index last p ≡ last_place ps p
