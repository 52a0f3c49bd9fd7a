-- The words that the stored words are, and what looking for the next one answers. Assumes nothing.
use Rattle.std.specs.Prelude.{ℕ, ◌+◌, ◌<◌, ◌≤◌, List, [], ◌∷◌, length, drop, Some, None, Option}
use Rattle.lines.specs.declared.word.Word.{Word as Stored}
use Rattle.lines.specs.declared.word.Word.TheVariants.{Name, Number, Mark, Stray}
use Rattle.lines.specs.Cuts.{Word, name, number, mark, stray, bytes_of, Placed, Cuts}

-- what a stored word is
abbrev pub word_of : Stored → Word
word_of (Name s) = name s.now
word_of (Number s) = number s.now
word_of (Mark s) = mark s.now
word_of (Stray s) = stray s.now

-- where a word with its place ends
abbrev pub end_of : Stored × ℕ → ℕ
end_of x = x.1 + length (bytes_of (word_of x.0))

-- the words of the line from `from` on are this word with its place, and then those from its end on; or there are none
abbrev pub Next : List ℕ → ℕ → Option (Stored × ℕ) → Type 0
Next line from (Some x) = (ws : List Placed) → Cuts (end_of x) (drop (end_of x) line) ws → Cuts from (drop from line) ((word_of x.0, x.1) ∷ ws)
Next line from None = Cuts from (drop from line) []

-- the word has a byte, and stands in the line at or after `from`
abbrev pub Within : List ℕ → ℕ → Option (Stored × ℕ) → Type 0
Within line from (Some x) = (from ≤ x.1) × (x.1 < end_of x) × (end_of x ≤ length line)
Within line from None = Unit {0}
