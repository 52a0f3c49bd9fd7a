-- What a fold over the origins up to j gathers.
use Rattle.std.proofs.Common.{◌≡◌, ℕ, ◌+◌, ◌-◌, ◌*◌, ◌<◌, ◌≤◌, inl, inr, ⊎_elim, List, [], ◌∷◌, None, sym, refl, ◌∙◌, ap, subst, arith}
use denote.Param.Members.{Mut, Called}
use Rattle.std.specs.List.{FoldsTo}
use Rattle.std.specs.declared.ops.Range.{Range}
use Rattle.std.specs.Iterator.{Yields, Drains}
use Rattle.std.proofs.iter.Yields.{nat_range_steps}
use Rattle.std.proofs.lemmas.Bool.{cases_eq}
use lib.Bits.{bit_or}
use Rattle.bitset.specs.Bits.{Has}
use Rattle.bitset.proofs.Digits.{or_has}
use Rattle.chart.specs.Chart.{Marked}
use Rattle.chart.specs.Cells.{IsSet, Gathered}

-- two pairs with the same parts
pub same_pair : {A B : Type 0} (p : A × B) (x : A) (y : B) → (p.0 ≡ x) × (p.1 ≡ y) → p ≡ (x, y)
same_pair p x y h = ap (λ a. (a, p.1)) h.0 ∙ ap (λ b. (x, b)) h.1

-- one origin more
pub gathered_more :
    (cells : List ℕ) (j x a m b : ℕ) → IsSet m cells (49 * j + x) → b ≡ bit_or a m → Gathered cells j x a → Gathered cells j (x + 1) b
gathered_more cells j x a m b is e g = record {
  all = λ i d l ld h.
      subst (λ n. Has n d) (sym e)
      ((or_has a m d).1
      (⊎_elim (λ (q : i ≡ x). inr ((is d ld).1 (subst (λ n. Marked cells n j d) q h)))
      (λ (q : ¬ (i ≡ x)). inl (g.all i d (omega (arith, q)) ld h)) (cases_eq i x)));
  only = λ d l h.
      ⊎_elim (λ (old : Has a d). let s = g.only d l old in (s.0, omega (arith, s.1), s.2)) (λ (new : Has m d). (x, omega arith, (is d l).0 new))
      ((or_has a m d).0 (subst (λ n. Has n d) e h));
}

module _
    (cells : List ℕ)
    (j : ℕ)
    {K : Type 0}
    (h : Mut K (ℕ × (ℕ × Unit {0})) ℕ)
    (k : K)
    (adds : (a : ℕ) (x : ℕ) (b : ℕ) (q : K) → x ≤ j → Called h k (a, (x, tt)) b q → (q ≡ k) × (Gathered cells j x a → Gathered cells j (x + 1) b)) where
  turns :
      (xs : List ℕ) (s t u : Range ℕ) (a r : ℕ) (q : K) →
      s.end ≡ j + 1 →
      s.start ≤ j + 1 →
      Yields nat_range_steps s xs t →
      nat_range_steps t None u →
      FoldsTo {P = K × ℕ} (λ p x j. Called h p.0 (p.1, (x, tt)) j.1 j.0) (k, a) xs (q, r) →
      Gathered cells j s.start a →
      Gathered cells j (j + 1) r
  turns [] s t u a r q end low y st folds old =
      let same = ap (λ (p : Range ℕ). p.end - p.start) y in
      let none = st.1.0 in
      subst (λ m. Gathered cells j m r) (omega arith) (subst (λ b. Gathered cells j s.start b) (ap (λ (p : K × ℕ). p.1) folds) old)
  turns (x ∷ xs) s t u a r q end low (v, step, ys) st (p, called, folds) old =
      let less = step.1.0 in
      let is : x ≡ s.start = step.1.1 in
      let next : v.start ≡ s.start + 1 = step.1.2 in
      let last : v.end ≡ j + 1 = step.0 ∙ end in
      let inside : x ≤ j = omega arith in
      let add = adds a x p.1 p.0 inside called in
      turns xs v t u p.1 r q last (omega arith) ys st
      (subst (λ (i : K). FoldsTo {P = K × ℕ} (λ p x j. Called h p.0 (p.1, (x, tt)) j.1 j.0) (i, p.1) xs (q, r)) add.0 folds)
      (subst (λ m. Gathered cells j m p.1) (omega arith) (add.1 (subst (λ m. Gathered cells j m a) (sym is) old)))

  pub all_gathered :
      (s : Range ℕ) (a r : ℕ) →
      s.start ≡ 0 →
      s.end ≡ j + 1 →
      ((xs : List ℕ) × (q : K) × Drains nat_range_steps s xs × FoldsTo {P = K × ℕ} (λ p x j. Called h p.0 (p.1, (x, tt)) j.1 j.0) (k, a) xs (q, r)) →
      Gathered cells j 0 a →
      Gathered cells j (j + 1) r
  all_gathered s a r start end (xs, q, (t, (u, ys, st)), folds) old =
      turns xs s _ _ a r q end (omega (arith, start)) ys st folds (subst (λ m. Gathered cells j m a) (sym start) old)
