-- The bytes that words are made of. Assumes nothing.
use Rattle.std.specs.Prelude.{ℕ, Bool, false, ◌&&◌, ◌||◌, List, [], ◌∷◌, ◌==◌, nat_le}

-- the byte is from low to high
abbrev pub between : ℕ → ℕ → ℕ → Bool
between low high b = nat_le low b && nat_le b high

-- a blank, byte 32, parts words
abbrev pub is_blank : ℕ → Bool
is_blank b = b == 32

-- a letter or an underscore
abbrev pub is_letter : ℕ → Bool
is_letter b = between 97 122 b || (between 65 90 b || b == 95)

-- a digit
abbrev pub is_digit : ℕ → Bool
is_digit b = between 48 57 b

-- a byte of a run: a letter, an underscore or a digit
abbrev pub in_run : ℕ → Bool
in_run b = is_letter b || is_digit b

-- a byte that a word can have
abbrev pub is_visible : ℕ → Bool
is_visible b = between 33 126 b

-- the first byte is there and passes
abbrev pub begins : (ℕ → Bool) → List ℕ → Bool
begins p [] = false
begins p (b ∷ bs) = p b
