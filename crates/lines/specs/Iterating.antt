-- The words of a line, one after the other. Assumes nothing.
use Rattle.std.specs.Prelude.{◌≡◌, ℕ, List, Some, None, Option}
use Rattle.lines.specs.declared.next.Words.{Words}
use Rattle.lines.specs.declared.word.Word.{Word as Stored}
use Rattle.lines.specs.Model.{end_of, Next}

-- the words are those of the line from a place on
abbrev pub Continues : List ℕ → ℕ → Words → Type 0
Continues line from w = (w.line.now ≡ line) × (w.from ≡ from)

-- the next word is taken, and those from its end on are left; or there are none
abbrev pub TakesWord : Words → Option (Stored × ℕ) → Words → Type 0
TakesWord w (Some x) v = Next w.line.now w.from (Some x) × Continues w.line.now (end_of x) v
TakesWord w None v = Next w.line.now w.from None × Continues w.line.now w.from v
