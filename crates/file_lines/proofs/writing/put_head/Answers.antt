use Rattle.std.proofs.Common.{[], ◌∷◌}
use Rattle.syntax.specs.Syntax.{letter}
use Rattle.file_lines.proofs.Written.{head_bytes}
use Rattle.syntax.proofs.Writes.{first_stops, second_stops, all_three}
use Rattle.file_lines.proofs.writing.put_head.Goals as goal

pub returns-in_err-put_bytes : goal.returns-in_err-put_bytes
returns-in_err-put_bytes c = first_stops c.args.out.now _ (letter c.args.start) (10 ∷ []) _ (head_bytes c.args.start) _ _ c.from_residual.ensures.1 _ c.in_err-put_bytes.ensures

pub returns-in_err-put_letter : goal.returns-in_err-put_letter
returns-in_err-put_letter c = second_stops c.args.out.now _ (letter c.args.start) (10 ∷ []) _ (head_bytes c.args.start) _ _ c.from_residual-in_err-put_letter.ensures.1 _ _ c.in_ok-put_bytes.ensures c.in_err-put_letter.ensures

pub returns : goal.returns
returns c = all_three c.args.out.now _ (letter c.args.start) (10 ∷ []) _ (head_bytes c.args.start) _ _ _ _ c.in_ok-put_bytes.ensures c.in_ok-put_letter.ensures c.put_bytes-2.ensures
