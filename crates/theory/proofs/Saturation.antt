-- The least set that is closed under decided steps, among finitely many candidates: it is found by adding one element at a time.
use Rattle.std.proofs.Common.{◌≡◌, ℕ, zero, suc, ◌≤◌, ◌⊎◌, List, [], ◌∷◌, length, sym, refl, ap, ◌∙◌, subst, inl, inr, arith}
use mathlib.Core.List.Memᴰ
use mathlib.Core.List.{Memᴰ}
use native.Mathlib.Decide.{dec_lt}
use Rattle.std.specs.List.{flat_map}
use Rattle.theory.proofs.Decisions.{any}

-- ---- lists of candidates

-- the numbers from 0 to n
abbrev pub upto : ℕ → List ℕ
upto zero = 0 ∷ []
upto (suc n) = suc n ∷ upto n

pub into_upto : (n m : ℕ) → m ≤ n → Memᴰ m (upto n)
into_upto zero m h = Memᴰ.head (omega arith)
into_upto (suc n) m h = elim (dec_lt n m) [ yes l ↦ Memᴰ.head (omega arith) | no l ↦ Memᴰ.tail (into_upto n m (omega arith)) ]

pub into_joined : {A B : Type 0} (f : A → List B) {x : A} {z : B} {xs : List A} → Memᴰ x xs → Memᴰ z (f x) → Memᴰ z (flat_map f xs)
into_joined f {z = z} (Memᴰ.head {xs = xs} e) h = Memᴰ.append_left (flat_map f xs) (subst (λ y. Memᴰ z (f y)) e h)
into_joined f (Memᴰ.tail {x = y} m) h = Memᴰ.append_right (f y) (into_joined f m h)

-- ---- a list without one of its elements

abbrev without : {A : Type 0} {x : A} {xs : List A} → Memᴰ x xs → List A
without (Memᴰ.head {xs = xs} e) = xs
without (Memᴰ.tail {x = y} m) = y ∷ without m

length_without : {A : Type 0} {x : A} {xs : List A} (m : Memᴰ x xs) → length xs ≡ suc (length (without m))
length_without (Memᴰ.head e) = refl
length_without (Memᴰ.tail m) = ap suc (length_without m)

same_or_without : {A : Type 0} {x z : A} {xs : List A} (m : Memᴰ x xs) → Memᴰ z xs → (z ≡ x) ⊎ Memᴰ z (without m)
same_or_without (Memᴰ.head e) h = elim (Memᴰ.cases_cons h) [ inl same ↦ inl (same ∙ sym e) | inr k ↦ inr k ]
same_or_without (Memᴰ.tail m) h =
    elim (Memᴰ.cases_cons h) [
      | inl same ↦ inr (Memᴰ.head same)
      | inr k ↦ elim (same_or_without m k) [ inl e ↦ inl e | inr l ↦ inr (Memᴰ.tail l) ]
    ]

-- ---- the least set: F D x says that x follows in one step from elements of D

module _
    {A : Type 0}
    (X : A → Type 0)
    (F : List A → A → Type 0)
    (decide : (D : List A) (x : A) → Dec (F D x))
    (sound : (D : List A) (x : A) → ((y : A) → Memᴰ y D → X y) → F D x → X x) where
  -- D has every x with Q x that follows from it
  abbrev Closed : List A → (A → Type 0) → Type 0
  Closed D Q = (x : A) → Q x → F D x → Memᴰ x D

  -- every element of D has X
  abbrev Sound : List A → Type 0
  Sound D = (y : A) → Memᴰ y D → X y

  grow :
      (n : ℕ) (D R : List A) →
      length R ≡ n →
      Sound D →
      (E : List A) × Sound E × Closed E (λ x. Memᴰ x D ⊎ Memᴰ x R) × ((x : A) → Memᴰ x D → Memᴰ x E)
  grow zero D [] e s = (D, s, (λ x h f. elim h [ inl m ↦ m | inr m ↦ absurd (Memᴰ.not-nil m) ]), λ x m. m)
  grow zero D (r ∷ R) e s = absurd (omega arith)
  grow (suc n) D R e s =
      elim (any (decide D) R) [
        | no none ↦ (D, s, (λ x h f. elim h [ inl m ↦ m | inr m ↦ absurd (none (x, m, f)) ]), λ x m. m)
        | yes r ↦
            let less = length_without r.1 in
            let new : Sound (r.0 ∷ D) = λ y m. elim (Memᴰ.cases_cons m) [ inl same ↦ subst X (sym same) (sound D r.0 s r.2) | inr k ↦ s y k ] in
            let more = grow n (r.0 ∷ D) (without r.1) (omega arith) new in (
              more.0,
              more.1,
              (λ x h f. elim h [
                | inl m ↦ more.3 x (Memᴰ.tail m)
                | inr m ↦ elim (same_or_without r.1 m) [ inl same ↦ more.3 x (Memᴰ.head same) | inr k ↦ more.2 x (inr k) f ]
              ]),
              λ x m. more.3 x (Memᴰ.tail m),
            )
      ]

  -- every element has X, and every candidate that follows is an element
  pub least_set : (candidates : List A) → (E : List A) × Sound E × Closed E (λ x. Memᴰ x candidates)
  least_set R = let r = grow (length R) [] R refl (λ y m. absurd (Memᴰ.not-nil m)) in (r.0, r.1, λ x m. r.2 x (inr m))
