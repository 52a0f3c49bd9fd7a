use Rattle.std.proofs.Common.{[], ◌∷◌, refl}
use Rattle.syntax.specs.Syntax.{sign}
use Rattle.syntax.proofs.Writes.{first_stops, second_stops, all_three}
use Rattle.file_lines.proofs.writing.put_spaced_relation.Goals as goal

pub returns-in_err-put_bytes : goal.returns-in_err-put_bytes
returns-in_err-put_bytes c = first_stops c.args.out.now (32 ∷ []) (sign c.args.relation ∷ []) (32 ∷ []) _ refl _ _ c.from_residual.ensures.1 _ c.in_err-put_bytes.ensures

pub returns-in_err-put_relation : goal.returns-in_err-put_relation
returns-in_err-put_relation c = second_stops c.args.out.now (32 ∷ []) (sign c.args.relation ∷ []) (32 ∷ []) _ refl _ _ c.from_residual-in_err-put_relation.ensures.1 _ _ c.in_ok-put_bytes.ensures c.in_err-put_relation.ensures

pub returns : goal.returns
returns c = all_three c.args.out.now (32 ∷ []) (sign c.args.relation ∷ []) (32 ∷ []) _ refl _ _ _ _ c.in_ok-put_bytes.ensures c.in_ok-put_relation.ensures c.put_bytes-2.ensures
