use Rattle.std.proofs.Common.{map, take, Ok}
use Rattle.syntax.specs.Writing.{Writes}
use Rattle.file_model.specs.Spelled.{written}
use Rattle.spellings.specs.Model.{words}
use Rattle.spellings.specs.Writing.{symbol_parts}
use Rattle.spellings.proofs.spellings.Spellings.put_symbols.Given as goal

abbrev pub invariant-loop-symbol : goal.invariant-loop-symbol
invariant-loop-symbol l = Writes l.initial.out (symbol_parts (map (written (words l.self)) (take l.symbol-index l.right))) (Ok tt) l.out
