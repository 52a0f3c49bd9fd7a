use Rattle.std.proofs.Common.{[], ◌∷◌, refl}
use Rattle.syntax.specs.Syntax.{spelling_text}
use Rattle.syntax.specs.Model.{spelling}
use Rattle.syntax.proofs.Writes.{first_stops, second_stops, all_three}
use Rattle.file_lines.proofs.writing.put_word_line.Goals as goal

pub returns-in_err-put_bytes : goal.returns-in_err-put_bytes
returns-in_err-put_bytes c = first_stops c.args.out.now (119 ∷ 111 ∷ 114 ∷ 100 ∷ 32 ∷ []) (spelling_text (spelling c.args.word.now)) (10 ∷ []) _ refl _ _ c.from_residual.ensures.1 _ c.in_err-put_bytes.ensures

pub returns-in_err-put_spelling : goal.returns-in_err-put_spelling
returns-in_err-put_spelling c = second_stops c.args.out.now (119 ∷ 111 ∷ 114 ∷ 100 ∷ 32 ∷ []) (spelling_text (spelling c.args.word.now)) (10 ∷ []) _ refl _ _ c.from_residual-in_err-put_spelling.ensures.1 _ _ c.in_ok-put_bytes.ensures c.in_err-put_spelling.ensures

pub returns : goal.returns
returns c = all_three c.args.out.now (119 ∷ 111 ∷ 114 ∷ 100 ∷ 32 ∷ []) (spelling_text (spelling c.args.word.now)) (10 ∷ []) _ refl _ _ _ _ c.in_ok-put_bytes.ensures c.in_ok-put_spelling.ensures c.put_bytes-2.ensures
