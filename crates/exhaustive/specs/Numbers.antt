-- The numbers that are printed of a line that is refused. Assumes nothing.
use Rattle.std.specs.Prelude.{ℕ}
use Rattle.exhaustive.specs.declared.fault.Refusal.{Refusal}
use Rattle.exhaustive.specs.declared.fault.Refusal.TheVariants.{LineFull, NothingBegins, NoSentence, ShortTable, UnknownWord}

-- the number of every refusal of a line
abbrev pub number : Refusal → ℕ
number LineFull = 9
number NothingBegins = 11
number NoSentence = 13
number ShortTable = 16
number UnknownWord = 21
