-- The list of spellings that stored spellings are. Assumes nothing.
use Rattle.std.specs.Prelude.{List}
use Rattle.syntax.specs.Syntax.{Spelling}
use Rattle.spellings.specs.declared.spellings.Spellings.{Spellings}
use Rattle.spellings.specs.Stored.{spellings}

-- the spellings, in order of declaration
abbrev pub words : Spellings → List Spelling
words s = spellings s.words s.count
