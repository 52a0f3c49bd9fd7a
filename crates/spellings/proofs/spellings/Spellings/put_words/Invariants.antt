use Rattle.std.proofs.Common.{map, take, Ok}
use Rattle.syntax.specs.Syntax.{word_line}
use Rattle.syntax.specs.Writing.{Writes}
use Rattle.file_model.specs.Files.{rendered}
use Rattle.spellings.specs.Model.{words}
use Rattle.spellings.proofs.spellings.Spellings.put_words.Given as goal

abbrev pub invariant-loop-word : goal.invariant-loop-word
invariant-loop-word l = Writes l.initial.out (rendered (map word_line (take l.word-index (words l.self)))) (Ok tt) l.out
