use Rattle.std.proofs.Common.{[], ◌∷◌, decimal, refl}
use Rattle.syntax.proofs.Writes.{writes_on, writes_exit}
use Rattle.file_lines.proofs.writing.put_last_number.Goals as goal

pub returns-in_err-put_number : goal.returns-in_err-put_number
returns-in_err-put_number c = writes_exit _ _ c.from_residual.ensures.1 c.args.out.now _ (decimal c.args.n) (10 ∷ []) _ refl c.in_err-put_number.ensures

pub returns : goal.returns
returns c = writes_on c.args.out.now _ _ (decimal c.args.n) (10 ∷ []) _ _ refl c.in_ok-put_number.ensures c.put_bytes.ensures
