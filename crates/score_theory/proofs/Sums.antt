-- Sums on a scale that keeps the laws of a semiring.
use Rattle.std.proofs.Common.{◌≡◌, ℕ, zero, suc, ◌<◌, List, [], ◌∷◌, ◌++◌, map, sym, refl, ap, ◌∙◌, arith}
use mathlib.Core.List.{Memᴰ}
use Rattle.std.specs.List.{flat_map}
use Rattle.scales.specs.Scales.{Scale, SemiringLaws}
use Rattle.score_theory.specs.Totals.{Enumerates, Commutative}
use Rattle.score_theory.specs.Scores.{sum_on}
use Rattle.score_theory.specs.Weights.{sum_below}
use Rattle.score_theory.proofs.SameTotals.{enumerated_total}
use Rattle.score_theory.proofs.Enumerations.{below}

pub sum_same : {S A : Type 0} (s : Scale S) (h k : A → S) (xs : List A) → ((x : A) → Memᴰ x xs → h x ≡ k x) → sum_on s h xs ≡ sum_on s k xs
sum_same s h k [] e = refl
sum_same s h k (x ∷ xs) e =
    ap (λ v. s.plus v (sum_on s h xs)) (e x (Memᴰ.head refl)) ∙ ap (s.plus (k x)) (sum_same s h k xs (λ y m. e y (Memᴰ.tail m)))

pub sum_map : {S A B : Type 0} (s : Scale S) (h : B → S) (f : A → B) (xs : List A) → sum_on s h (map f xs) ≡ sum_on s (λ x. h (f x)) xs
sum_map s h f [] = refl
sum_map s h f (x ∷ xs) = ap (s.plus (h (f x))) (sum_map s h f xs)

-- sums of the numbers below n agree where the values do
pub sum_below_same : {S : Type 0} (s : Scale S) (n : ℕ) (h k : ℕ → S) → ((x : ℕ) → x < n → h x ≡ k x) → sum_below s n h ≡ sum_below s n k
unfolding sum_below
sum_below_same s zero h k e = refl
sum_below_same s (suc n) h k e =
    ap (λ v. s.plus v (h n)) (sum_below_same s n h k (λ x l. e x (omega arith))) ∙ ap (s.plus (sum_below s n k)) (e n (omega arith))

module _ {S : Type 0} (s : Scale S) (laws : SemiringLaws s) where
  pub commutes : Commutative s.none s.plus
  commutes = record { neutral = laws.plus_none; comm = laws.plus_comm; assoc = laws.plus_assoc }

  -- two lists of all with a property have one sum
  pub one_sum : {A : Type 0} {P : A → Type 0} {xs ys : List A} (h : A → S) → Enumerates P xs → Enumerates P ys → sum_on s h xs ≡ sum_on s h ys
  one_sum h all all' = enumerated_total commutes h all all'

  sum_append : {A : Type 0} (h : A → S) (xs ys : List A) → sum_on s h (xs ++ ys) ≡ s.plus (sum_on s h xs) (sum_on s h ys)
  sum_append h [] ys = sym (laws.plus_none (sum_on s h ys))
  sum_append h (x ∷ xs) ys = ap (s.plus (h x)) (sum_append h xs ys) ∙ sym (laws.plus_assoc (h x) (sum_on s h xs) (sum_on s h ys))

  pub sum_joined : {A B : Type 0} (h : B → S) (f : A → List B) (xs : List A) → sum_on s h (flat_map f xs) ≡ sum_on s (λ x. sum_on s h (f x)) xs
  sum_joined h f [] = refl
  sum_joined h f (x ∷ xs) = sum_append h (f x) (flat_map f xs) ∙ ap (s.plus (sum_on s h (f x))) (sum_joined h f xs)

  pub sum_times : {A : Type 0} (h : A → S) (c : S) (xs : List A) → sum_on s (λ x. s.times c (h x)) xs ≡ s.times c (sum_on s h xs)
  sum_times h c [] = sym (laws.times_none c)
  sum_times h c (x ∷ xs) = ap (s.plus (s.times c (h x))) (sum_times h c xs) ∙ sym (laws.times_plus c (h x) (sum_on s h xs))

  pub times_sum : {A : Type 0} (h : A → S) (c : S) (xs : List A) → sum_on s (λ x. s.times (h x) c) xs ≡ s.times (sum_on s h xs) c
  times_sum h c [] = sym (laws.none_times c)
  times_sum h c (x ∷ xs) = ap (s.plus (s.times (h x) c)) (times_sum h c xs) ∙ sym (laws.plus_times (h x) (sum_on s h xs) c)

  -- the sum over the numbers below n, in either order
  pub sum_below_is : (n : ℕ) (h : ℕ → S) → sum_on s h (below n) ≡ sum_below s n h
  unfolding sum_below
  sum_below_is zero h = refl
  sum_below_is (suc n) h = ap (s.plus (h n)) (sum_below_is n h) ∙ laws.plus_comm (h n) (sum_below s n h)
