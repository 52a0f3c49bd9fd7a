-- The model of the stored types. Assumes nothing.
use Rattle.std.specs.Prelude.{ℕ, List}
use Rattle.grammar.specs.Bytes.{items}
use Rattle.syntax.specs.declared.spelling.Literal.{Literal as StoredLiteral}
use Rattle.syntax.specs.declared.spelling.Spelling.{Spelling as StoredSpelling}
use Rattle.syntax.specs.declared.spelling.Spelling.TheVariants.{Literal, Name, Num}
use Rattle.syntax.specs.declared.spelling.Symbol.{Symbol as StoredSymbol}
use Rattle.syntax.specs.declared.spelling.Symbol.TheVariants.{Nonterminal, Spelled}
use Rattle.syntax.specs.Syntax.{Spelling, literal, name, num, Symbol, nonterminal, spelled}

-- the bytes of a stored literal
abbrev pub bytes_of : StoredLiteral → List ℕ
bytes_of l = items l.bytes

-- what a stored spelling is
abbrev pub spelling : StoredSpelling → Spelling
spelling (Literal l) = literal (bytes_of l)
spelling Name = name
spelling Num = num

-- what a stored symbol is
abbrev pub symbol : StoredSymbol → Symbol
symbol (Nonterminal s) = nonterminal s
symbol (Spelled w) = spelled (spelling w)
