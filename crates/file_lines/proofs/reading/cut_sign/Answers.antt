use Rattle.std.proofs.Common.{[], ◌∷◌, get_or, refl, arith, ltb-false}
use Rattle.file_lines.proofs.Fronts.{begins}
use Rattle.file_lines.proofs.reading.cut_sign.Goals as goal

pub returns-in-32 : goal.returns-in-32
returns-in-32 c =
    let s = c.args.text.now in
    begins s (get_or s 0 0 ∷ 32 ∷ []) (omega (arith, ltb-false)) (refl, (omega arith, tt))
