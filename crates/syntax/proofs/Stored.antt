-- Every stored spelling can be written.
use Rattle.std.proofs.Common.{arith}
use Rattle.std.proofs.lemmas.List.{length-take-le}
use Rattle.syntax.specs.declared.spelling.Literal.{Literal as StoredLiteral}
use Rattle.syntax.specs.declared.spelling.Spelling.{Spelling as StoredSpelling}
use Rattle.syntax.specs.declared.spelling.Spelling.TheVariants.{Literal, Name, Num}
use Rattle.syntax.specs.Syntax.{literal, ValidSpelling}
use Rattle.syntax.specs.Model.{bytes_of, spelling}

pub literal_valid : (l : StoredLiteral) → ValidSpelling (literal (bytes_of l))
literal_valid l =
    let b = l.bytes in
    let few = b.few in
    let whole = b.whole in
    (l.some, omega (arith, length-take-le b.count b.bytes (omega arith)), l.plain)

pub spelling_valid : (w : StoredSpelling) → ValidSpelling (spelling w)
spelling_valid (Literal l) = literal_valid l
spelling_valid Name = tt
spelling_valid Num = tt
