use Rattle.std.proofs.Common.{◌≡◌, ℕ, ◌<◌, true, List, length, get_or, Some, None, Option, Ok, Err, Result, sym, ap, ◌∙◌, subst, ⊎_elim, arith}
use Rattle.std.specs.Result.{OkIff, result_ok}
use Rattle.syntax.specs.Reading.{ReadsNumber}
use Rattle.std.proofs.lemmas.Bool.{eqb-true, eqb-false}
use Rattle.syntax.proofs.Numbers.{shape_of, shape_decimal}
use Rattle.syntax.proofs.reading.read_number.Goals.{else-part-eq48-via-then-part-eq48+else-part-gt1, else-part-eq48-via-else-part-eq48}
use Rattle.syntax.proofs.reading.read_number.Goals as goal

-- a number that is read as one up to 65535 or not at all
told :
    {E : Type 0} (part : List ℕ) (n : ℕ) (t : Result ℕ E) (r : Option ℕ) →
    r ≡ result_ok t →
    OkIff t (n < 65536) n →
    (n < 65536 → ReadsNumber part (Some n)) →
    (¬ (n < 65536) → ReadsNumber part None) →
    ReadsNumber part r
told part n (Ok m) r e h small large = subst (ReadsNumber part) (sym (e ∙ ap Some h.1)) (small h.0)
told part n (Err x) r e h small large = subst (ReadsNumber part) (sym e) (large h)

pub returns-in_err-n : goal.returns-in_err-n
returns-in_err-n c = rw c.from_residual.ensures (λ n h e. c.in_err-n.ensures (shape_of n _ h e).digits)

pub returns : goal.returns
returns c =
    let part = c.args.part.now in
    let some : 0 < length part = omega (arith, eqb-false _ 0 (sym c.if-is_empty.ensures)) in
    let zero_alone : get_or part 0 0 ≡ 48 → length part ≡ 1 =
    λ z. elim c.else-part-eq48.branch [
      | else-part-eq48-via-then-part-eq48+else-part-gt1 w ↦ omega arith
      | else-part-eq48-via-else-part-eq48 w ↦ absurd (omega arith)
    ] in
    let d = c.in_ok-n.ensures in
    told part c.in_ok-n.n c.try_from.result c.ok.result c.ok.ensures.value c.try_from.ensures
    (λ h. (omega arith, shape_decimal _ part record { some = some; short = omega arith; no_zero = zero_alone; digits = d.0; value_is = sym d.1 }))
    (λ h n l e. omega (arith, d.1, (shape_of n _ l e).value_is))

pub returns-then-is_empty : goal.returns-then-is_empty
returns-then-is_empty c = λ n h e.
    let s = shape_of n _ h e in
    ⊎_elim
    (λ (t : c.is_empty.result ≡ true). omega (arith, eqb-true _ 0 (sym c.is_empty.ensures ∙ t)))
    (λ p. omega (arith, p.1))
    c.then-is_empty.either

pub returns-then-part-gt1 : goal.returns-then-part-gt1
returns-then-part-gt1 c = λ n h e.
    let s = shape_of n _ h e in
    omega (arith, s.no_zero (omega arith))
