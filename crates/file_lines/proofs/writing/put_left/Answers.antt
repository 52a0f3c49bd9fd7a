use Rattle.std.proofs.Common.{[], ◌∷◌, refl}
use Rattle.syntax.specs.Syntax.{letter}
use Rattle.syntax.proofs.Writes.{writes_on, writes_exit}
use Rattle.file_lines.proofs.writing.put_left.Goals as goal

pub returns-in_err-put_letter : goal.returns-in_err-put_letter
returns-in_err-put_letter c = writes_exit _ _ c.from_residual.ensures.1 c.args.out.now _ (letter c.args.left) (32 ∷ 61 ∷ 32 ∷ []) _ refl c.in_err-put_letter.ensures

pub returns : goal.returns
returns c = writes_on c.args.out.now _ _ (letter c.args.left) (32 ∷ 61 ∷ 32 ∷ []) _ _ refl c.in_ok-put_letter.ensures c.put_bytes.ensures
