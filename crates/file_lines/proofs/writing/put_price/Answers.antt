use Rattle.std.proofs.Common.{[], ◌∷◌, decimal, refl}
use Rattle.file_model.specs.Files.{ended}
use Rattle.syntax.proofs.Writes.{writes_on, writes_exit}
use Rattle.file_lines.proofs.writing.put_price.Goals as goal

pub returns-in_err-put_bytes : goal.returns-in_err-put_bytes
returns-in_err-put_bytes c = writes_exit _ _ c.from_residual.ensures.1 c.args.out.now _ (59 ∷ 32 ∷ []) (ended (decimal c.args.price)) _ refl c.in_err-put_bytes.ensures

pub returns : goal.returns
returns c = writes_on c.args.out.now _ _ (59 ∷ 32 ∷ []) (ended (decimal c.args.price)) _ _ refl c.in_ok-put_bytes.ensures c.put_last_number.ensures
