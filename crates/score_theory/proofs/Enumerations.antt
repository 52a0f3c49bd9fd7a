-- Lists that have each member with a property once.
use Rattle.std.proofs.Common.{◌≡◌, ℕ, zero, suc, ◌<◌, ◌⊎◌, List, [], ◌∷◌, ◌++◌, map, sym, refl, ap, ◌∙◌, subst, inl, inr, arith}
use mathlib.Core.List.Memᴰ
use mathlib.Core.List.{Memᴰ}
use native.Mathlib.Decide.{dec_lt}
use Rattle.std.specs.List.{flat_map}
use Rattle.theory.proofs.Saturation.{into_joined}
use Rattle.score_theory.specs.Totals.{Distinct, distinct_none, distinct_more, Enumerates}

-- ---- joined lists

from_joined : {A B : Type 0} (f : A → List B) {z : B} (xs : List A) → Memᴰ z (flat_map f xs) → (x : A) × Memᴰ x xs × Memᴰ z (f x)
from_joined f [] h = absurd (Memᴰ.not-nil h)
from_joined f (x ∷ xs) h =
    elim (Memᴰ.append_cases (f x) h) [
      | inl here ↦ (x, Memᴰ.head refl, here)
      | inr there ↦ let r = from_joined f xs there in (r.0, Memᴰ.tail r.1, r.2)
    ]

distinct_append : {A : Type 0} {xs : List A} (ys : List A) → Distinct xs → Distinct ys → ((z : A) → Memᴰ z xs → ¬ Memᴰ z ys) → Distinct (xs ++ ys)
distinct_append ys distinct_none dy apart = dy
distinct_append ys (distinct_more {x = x} {xs = xs} new dx) dy apart =
    distinct_more
    (λ h. elim (Memᴰ.append_cases xs h) [ inl k ↦ new k | inr k ↦ apart x (Memᴰ.head refl) k ])
    (distinct_append ys dx dy (λ z h. apart z (Memᴰ.tail h)))

-- each part has a key of its own
distinct_joined :
    {A B : Type 0} (f : A → List B) (key : B → A) {xs : List A} →
    Distinct xs →
    ((x : A) → Memᴰ x xs → Distinct (f x)) →
    ((x : A) (z : B) → Memᴰ x xs → Memᴰ z (f x) → key z ≡ x) →
    Distinct (flat_map f xs)
distinct_joined f key distinct_none parts keyed = distinct_none
distinct_joined f key (distinct_more {x = x} {xs = xs} new d) parts keyed =
    distinct_append
    (flat_map f xs)
    (parts x (Memᴰ.head refl))
    (distinct_joined f key d (λ y h. parts y (Memᴰ.tail h)) (λ y z h. keyed y z (Memᴰ.tail h)))
    (λ z h k.
    let r = from_joined f xs k in
    new (Memᴰ.cast (sym (keyed x z (Memᴰ.head refl) h) ∙ keyed r.0 z (Memᴰ.tail r.1) r.2) r.1))

distinct_map : {A B : Type 0} (h : A → B) (back : B → A) {xs : List A} → ((x : A) → back (h x) ≡ x) → Distinct xs → Distinct (map h xs)
distinct_map h back inv distinct_none = distinct_none
distinct_map h back inv (distinct_more {x = x} {xs = xs} new d) =
    distinct_more
    (λ m. let r = Memᴰ.of_map h xs m in new (Memᴰ.cast (sym (inv x) ∙ ap back (sym r.2) ∙ inv r.0) r.1))
    (distinct_map h back inv d)

-- ---- enumerations

pub enumerates_iff : {A : Type 0} {P Q : A → Type 0} {xs : List A} → ((x : A) → P x → Q x) → ((x : A) → Q x → P x) → Enumerates P xs → Enumerates Q xs
enumerates_iff to back all = record { once = all.once; each = λ x. (λ m. to x ((all.each x).0 m), λ h. (all.each x).1 (back x h)) }

pub enumerates_none : {A : Type 0} {P : A → Type 0} → ((x : A) → ¬ P x) → Enumerates P []
enumerates_none never = record { once = distinct_none; each = λ x. (λ m. absurd (Memᴰ.not-nil m), λ h. absurd (never x h)) }

pub enumerates_one : {A : Type 0} (x : A) → Enumerates (λ z. z ≡ x) (x ∷ [])
enumerates_one x = record {
  once = distinct_more Memᴰ.not-nil distinct_none;
  each = λ z. (λ m. Memᴰ.eq_of_singleton m, λ e. Memᴰ.head e);
}

-- where nothing has the property, the list is empty
pub enumerates_nothing : {A : Type 0} {P : A → Type 0} (xs : List A) → Enumerates P xs → ((x : A) → ¬ P x) → xs ≡ []
enumerates_nothing [] all never = refl
enumerates_nothing (x ∷ xs) all never = absurd (never x ((all.each x).0 (Memᴰ.head refl)))

-- something has the property, or nothing does
pub enumerates_some : {A : Type 0} {P : A → Type 0} (xs : List A) → Enumerates P xs → ((x : A) × P x) ⊎ ((x : A) → ¬ P x)
enumerates_some [] all = inr (λ x h. Memᴰ.not-nil ((all.each x).1 h))
enumerates_some (x ∷ xs) all = inl (x, (all.each x).0 (Memᴰ.head refl))

pub enumerates_map : {A B : Type 0} {P : A → Type 0} {xs : List A} (h : A → B) (back : B → A) → ((x : A) → back (h x) ≡ x) → Enumerates P xs → Enumerates (λ z. (x : A) × P x × (z ≡ h x)) (map h xs)
enumerates_map {xs = xs} h back inv all = record {
  once = distinct_map h back inv all.once;
  each = λ z. (
    λ m. let r = Memᴰ.of_map h xs m in (r.0, (all.each r.0).0 r.1, sym r.2),
    λ r. Memᴰ.cast r.2 (Memᴰ.map h ((all.each r.0).1 r.1)),
  );
}

pub enumerates_joined :
    {A B : Type 0} {C : A → Type 0} {Q : A → B → Type 0} {xs : List A} (f : A → List B) (key : B → A) →
    ((x : A) (z : B) → Q x z → key z ≡ x) →
    Enumerates C xs →
    ((x : A) → Enumerates (Q x) (f x)) →
    Enumerates (λ z. (x : A) × C x × Q x z) (flat_map f xs)
enumerates_joined {xs = xs} f key keyed all parts = record {
  once = distinct_joined f key all.once (λ x m. (parts x).once) (λ x z m k. keyed x z (((parts x).each z).0 k));
  each = λ z. (
    λ m. let r = from_joined f xs m in (r.0, (all.each r.0).0 r.1, ((parts r.0).each z).0 r.2),
    λ r. into_joined f ((all.each r.0).1 r.1) (((parts r.0).each z).1 r.2),
  );
}

-- ---- members that keep a decided property

-- the list where the property holds, and none where not
abbrev pub list_if : {A X : Type 0} → Dec X → List A → List A
list_if (yes x) xs = xs
list_if (no x) xs = []

pub enumerates_if : {A X : Type 0} {P : A → Type 0} {xs : List A} (d : Dec X) → Enumerates P xs → Enumerates (λ z. X × P z) (list_if d xs)
enumerates_if (yes x) all = enumerates_iff (λ z h. (x, h)) (λ z h. h.1) all
enumerates_if (no x) all = enumerates_none (λ z h. x h.0)

module _ {A : Type 0} {P : A → Type 0} (d : (x : A) → Dec (P x)) where
  abbrev pub kept : List A → List A
  kept xs = flat_map (λ x. list_if (d x) (x ∷ [])) xs

  pub enumerates_kept : {Q : A → Type 0} {xs : List A} → Enumerates Q xs → Enumerates (λ x. Q x × P x) (kept xs)
  enumerates_kept {Q} all =
      enumerates_iff
      (λ z r. (subst Q (sym r.2.1) r.1, subst P (sym r.2.1) r.2.0))
      (λ z h. (z, h.0, (h.1, refl)))
      (enumerates_joined {Q = λ x z. P x × (z ≡ x)} (λ x. list_if (d x) (x ∷ [])) (λ z. z) (λ x z r. r.1) all (λ x. enumerates_if (d x) (enumerates_one x)))

-- ---- the numbers below n

abbrev pub below : ℕ → List ℕ
below zero = []
below (suc n) = n ∷ below n

from_below : (n m : ℕ) → Memᴰ m (below n) → m < n
from_below zero m h = absurd (Memᴰ.not-nil h)
from_below (suc n) m h = elim (Memᴰ.cases_cons h) [ inl e ↦ omega arith | inr k ↦ let l = from_below n m k in omega arith ]

into_below : (n m : ℕ) → m < n → Memᴰ m (below n)
into_below zero m l = absurd (omega arith)
into_below (suc n) m l = elim (dec_lt m n) [ yes less ↦ Memᴰ.tail (into_below n m less) | no more ↦ Memᴰ.head (omega arith) ]

distinct_below : (n : ℕ) → Distinct (below n)
distinct_below zero = distinct_none
distinct_below (suc n) = distinct_more (λ h. let l = from_below n n h in omega arith) (distinct_below n)

pub enumerates_below : (n : ℕ) → Enumerates (λ m. m < n) (below n)
enumerates_below n = record { once = distinct_below n; each = λ m. (from_below n m, into_below n m) }
