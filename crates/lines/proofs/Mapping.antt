-- Answers whose refusal is told by `map_err`. Assumes nothing.
use Rattle.std.proofs.Common.{◌≡◌, Ok, Err, Result, sym, refl, ap, ◌∙◌, subst}
use Rattle.std.specs.Result.{MatchResult, IsErrAnd}

module _ {A E F : Type 0} (b : Result A F) (P : E → F → Type 0) where
  same_value : (y x : A) → b ≡ Ok y → b ≡ Ok x → y ≡ x
  same_value y x h k = cc

  -- a value is the one of the answer
  pub ok_mapped : (a : Result A E) (x : A) → MatchResult a (λ y. b ≡ Ok y) (λ e. IsErrAnd b (P e)) → b ≡ Ok x → a ≡ Ok x
  ok_mapped (Ok y) x h k = ap Ok (same_value y x h k)
  ok_mapped (Err e) x h k = absurd (subst (λ c. IsErrAnd c (P e)) k h)

  -- an error is told of the answer's error
  pub err_mapped : (a : Result A E) (f : F) → MatchResult a (λ y. b ≡ Ok y) (λ e. IsErrAnd b (P e)) → b ≡ Err f → (e : E) × (a ≡ Err e) × P e f
  err_mapped (Ok y) f h k = let z : Ok y ≡ Err f = sym h ∙ k in absurd (cc)
  err_mapped (Err e) f h k = (e, refl, subst (λ c. IsErrAnd c (P e)) k h)
