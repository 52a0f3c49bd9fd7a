use Rattle.std.proofs.Common.{◌≡◌, ◌+◌, ◌-◌, [], ◌∷◌, length, get_or, take, drop, refl, ap, ◌∙◌, arith, ltb-false}
use Rattle.file_lines.proofs.Fronts.{begins}
use Rattle.file_lines.proofs.reading.cut_left.Goals as goal

pub returns-in-65-to-80 : goal.returns-in-65-to-80
returns-in-65-to-80 c =
    let line = c.args.line.now in
    let x = get_or line 0 0 in
    let back : x ≡ 65 + (x - 65) = omega arith in (
      omega arith,
      begins line (x ∷ 32 ∷ 61 ∷ 32 ∷ []) (omega (arith, ltb-false)) (refl, (omega arith, (omega arith, (omega arith, tt))))
          ∙ ap (λ y. y ∷ 32 ∷ 61 ∷ 32 ∷ take (length line - 4) (drop 4 line)) back,
    )
