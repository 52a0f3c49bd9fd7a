-- The three scales keep the laws of a semiring. The proofs stand here since the impls cite them.
use Rattle.std.specs.Prelude.{◌≡◌, ℕ, ◌+◌, ◌*◌, ◌<◌, ◌≤◌, min}
use Rattle.std.proofs.Common.{sym, ◌∙◌, ap, subst, ⊎_elim, arith, eq-zero-or-pos, le-mul_of_pos_right, mul_comm, mul_assoc, mul-add, add-mul, mul-one, one-mul, mul-zero, zero-mul}
use Rattle.std.proofs.Math.Bridge.{le_prop}
use Rattle.std.proofs.Math.Bool.{false-or, or_comm, or_assoc, and_assoc, true-and, and-true, and-or_distrib_left, and-or_distrib_right, false-and, and-false}
use Rattle.std.proofs.lemmas.Bool.{cases_lt}
use Rattle.scales.specs.declared.values.Count.{Count}
use Rattle.scales.specs.declared.values.Price.{Price}
use Rattle.scales.specs.Scales.{SemiringLaws}
use Rattle.scales.specs.ThreeScales.{answer, yes_no, count, price}

pub yes_no_laws : SemiringLaws yes_no
yes_no_laws = record {
  plus_none = λ x. ap answer (false-or x.yes);
  plus_comm = λ x y. ap answer (or_comm x.yes y.yes);
  plus_assoc = λ x y z. ap answer (or_assoc x.yes y.yes z.yes);
  times_assoc = λ x y z. ap answer (and_assoc x.yes y.yes z.yes);
  one_times = λ x. ap answer (true-and x.yes);
  times_one = λ x. ap answer (and-true x.yes);
  times_plus = λ x y z. ap answer (and-or_distrib_left x.yes y.yes z.yes);
  plus_times = λ x y z. ap answer (and-or_distrib_right x.yes y.yes z.yes);
  none_times = λ x. ap answer (false-and x.yes);
  times_none = λ x. ap answer (and-false x.yes);
}

-- what is made of a number that is in range turns on the number alone
made_same : {S : Type 0} (top : ℕ) (make : (n : ℕ) → n ≤ top → S) (a b : ℕ) (p : a ≤ top) (q : b ≤ top) → a ≡ b → make a p ≡ make b q
made_same top make a b p q e = let P : ℕ → Type 0 = λ v. (r : v ≤ top) → make a p ≡ make v r in subst P e (λ r. ap (make a) (le_prop p r)) q

-- counts of one value are one
pub same_count : (a b : Count) → a.value ≡ b.value → a ≡ b
same_count a b e = made_same 4294967295 (λ n h. record { value = n; fits = h }) a.value b.value a.fits b.fits e

-- prices of one value are one
pub same_price : (a b : Price) → a.value ≡ b.value → a ≡ b
same_price a b e = made_same 4294967295 (λ n h. record { value = n; fits = h }) a.value b.value a.fits b.fits e

-- a product of a number that was cut off is cut off at the same number
cap_mul : (x c : ℕ) → min (min x 4294967295 * c) 4294967295 ≡ min (x * c) 4294967295
cap_mul x c =
    ⊎_elim
    (λ (large : 4294967295 < x).
    let e : min x 4294967295 ≡ 4294967295 = omega arith in
    ⊎_elim
    (λ (z : c ≡ 0). rw z (omega (arith, mul-zero (min x 4294967295), mul-zero x)))
    (λ (p : 0 < c).
    let up : x ≤ x * c = le-mul_of_pos_right x p in
    let most : 4294967295 ≤ 4294967295 * c = omega arith in
    rw e (omega arith))
    (eq-zero-or-pos c))
    (λ (small : x ≤ 4294967295). let e : min x 4294967295 ≡ x = omega arith in ap (λ y. min (y * c) 4294967295) e)
    (cases_lt 4294967295 x)

mul_cap : (c x : ℕ) → min (c * min x 4294967295) 4294967295 ≡ min (c * x) 4294967295
mul_cap c x = ap (λ y. min y 4294967295) (mul_comm c (min x 4294967295)) ∙ cap_mul x c ∙ ap (λ y. min y 4294967295) (mul_comm x c)

cap_add : (x y : ℕ) → min (min x 4294967295 + min y 4294967295) 4294967295 ≡ min (x + y) 4294967295
cap_add x y = omega arith

abbrev cut : ℕ → ℕ
cut n = min n 4294967295

pub count_laws : SemiringLaws count
count_laws = record {
  plus_none = λ x. same_count _ _ (let h = x.fits in omega arith);
  plus_comm = λ x y. same_count _ _ (omega arith);
  plus_assoc = λ x y z. same_count _ _ (omega arith);
  times_assoc = λ x y z. same_count _ _ (cap_mul (x.value * y.value) z.value ∙ ap cut (mul_assoc x.value y.value z.value) ∙ sym (mul_cap x.value (y.value * z.value)));
  one_times = λ x. same_count _ _ (let h = x.fits in omega (arith, one-mul x.value));
  times_one = λ x. same_count _ _ (let h = x.fits in omega (arith, mul-one x.value));
  times_plus = λ x y z. same_count _ _ (mul_cap x.value (y.value + z.value) ∙ ap cut (mul-add x.value y.value z.value) ∙ sym (cap_add (x.value * y.value) (x.value * z.value)));
  plus_times = λ x y z. same_count _ _ (cap_mul (x.value + y.value) z.value ∙ ap cut (add-mul x.value y.value z.value) ∙ sym (cap_add (x.value * z.value) (y.value * z.value)));
  none_times = λ x. same_count _ _ (omega (arith, zero-mul x.value));
  times_none = λ x. same_count _ _ (omega (arith, mul-zero x.value));
}

pub price_laws : SemiringLaws price
price_laws = record {
  plus_none = λ x. same_price _ _ (let h = x.fits in omega arith);
  plus_comm = λ x y. same_price _ _ (omega arith);
  plus_assoc = λ x y z. same_price _ _ (omega arith);
  times_assoc = λ x y z. same_price _ _ (omega arith);
  one_times = λ x. same_price _ _ (let h = x.fits in omega arith);
  times_one = λ x. same_price _ _ (let h = x.fits in omega arith);
  times_plus = λ x y z. same_price _ _ (omega arith);
  plus_times = λ x y z. same_price _ _ (omega arith);
  none_times = λ x. same_price _ _ (omega arith);
  times_none = λ x. same_price _ _ (omega arith);
}
