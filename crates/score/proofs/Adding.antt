-- Sums that are added up in order.
use Rattle.std.proofs.Common.{◌≡◌, ℕ, suc, ◌+◌, ap, ◌∙◌, arith}
use Rattle.scales.specs.Scales.{Scale}
use Rattle.score_theory.specs.Weights.{sum_below}

module _ {S : Type 0} (s : Scale S) (f : ℕ → S) where
  pub sum_none : (v : S) → v ≡ s.none → v ≡ sum_below s 0 f
  unfolding sum_below
  sum_none v e = e

  next : (n : ℕ) (old new v : S) → v ≡ s.plus old new → old ≡ sum_below s n f → new ≡ f n → v ≡ sum_below s (suc n) f
  unfolding sum_below
  next n old new v e was is = e ∙ ap (λ o. s.plus o new) was ∙ ap (s.plus (sum_below s n f)) is

  pub sum_to : (n m : ℕ) (v : S) → v ≡ sum_below s n f → n ≡ m → v ≡ sum_below s m f
  sum_to n m v e h = e ∙ ap (λ k. sum_below s k f) h

  pub sum_more : (n : ℕ) (old new v : S) → v ≡ s.plus old new → old ≡ sum_below s n f → new ≡ f n → v ≡ sum_below s (n + 1) f
  sum_more n old new v e was is = sum_to (suc n) (n + 1) v (next n old new v e was is) (omega arith)
