-- Finite sets as lists, with tests that compute, and sets that are closed under a step.
use Rattle.std.proofs.Common.{◌≡◌, ℕ, zero, suc, ◌<◌, Bool, true, false, cond, ◌&&◌, ◌||◌, List, [], ◌∷◌, ◌++◌, Decides, All, sym, refl, subst, inl, inr}
use mathlib.Core.List.Memᴰ
use mathlib.Core.List.{Memᴰ}
use mathlib.Core.Bool.{beq}
use Rattle.std.specs.List.{flat_map}
use Rattle.std.proofs.lemmas.List.Elements.{All-nil, All-cons, All-head, All-tail, All-append}
use Rattle.std.proofs.lemmas.Bool.{false≢true, cond_both}
use Rattle.std.proofs.lemmas.Bool.Decides.{Decides-like, Decides-or, Decides-by_and, Decides-below_and}

-- ---- tests of lists and of numbers

abbrev pub any : {A : Type 0} → (A → Bool) → List A → Bool
any f [] = false
any f (x ∷ xs) = f x || any f xs

abbrev pub all : {A : Type 0} → (A → Bool) → List A → Bool
all f [] = true
all f (x ∷ xs) = f x && all f xs

abbrev pub all_below : (ℕ → Bool) → ℕ → Bool
all_below f zero = true
all_below f (suc n) = f n && all_below f n

pub decides_any : {A : Type 0} {P : A → Type 0} (f : A → Bool) → ((x : A) → Decides (f x) (P x)) → (xs : List A) → Decides (any f xs) ((x : A) × Memᴰ x xs × P x)
decides_any f d [] = (λ e. absurd (false≢true e), λ h. absurd (Memᴰ.not-nil h.1))
decides_any {P = P} f d (x ∷ xs) =
    Decides-like
    _
    (λ h. elim h [ inl p ↦ (x, Memᴰ.head refl, p) | inr r ↦ (r.0, Memᴰ.tail r.1, r.2) ])
    (λ h. elim (Memᴰ.cases_cons h.1) [ inl e ↦ inl (subst P e h.2) | inr m ↦ inr (h.0, m, h.2) ])
    (Decides-or _ _ (d x) (decides_any f d xs))

pub decides_all : {A : Type 0} {P : A → Type 0} (f : A → Bool) → ((x : A) → Decides (f x) (P x)) → (xs : List A) → Decides (all f xs) (All P xs)
decides_all {P = P} f d xs = Decides-by_and f P (all f) d refl (λ _ _. refl) xs

pub decides_all_below : {P : ℕ → Type 0} (f : ℕ → Bool) → ((k : ℕ) → Decides (f k) (P k)) → (n : ℕ) → Decides (all_below f n) ((k : ℕ) → k < n → P k)
decides_all_below {P} f d n = Decides-below_and f P (all_below f) d refl (λ _. refl) n

-- membership
pub decides_in : {A : Type 0} (same : A → A → Bool) → ((x y : A) → Decides (same x y) (x ≡ y)) → (x : A) (xs : List A) → Decides (any (same x) xs) (Memᴰ x xs)
decides_in same d x xs = Decides-like _ (λ h. Memᴰ.cast h.2 h.1) (λ m. (x, m, refl)) (decides_any (same x) (d x) xs)

pub decides_beq : (x y : Bool) → Decides (beq x y) (x ≡ y)
decides_beq true true = (λ e. refl, λ e. refl)
decides_beq true false = (λ e. sym e, λ e. sym e)
decides_beq false true = (λ e. e, λ e. e)
decides_beq false false = (λ e. refl, λ e. refl)

-- ---- lists of consequences

-- x, if the test passes
abbrev pub when : {A : Type 0} → Bool → A → List A
when true x = x ∷ []
when false x = []

module _ {A : Type 0} (P : A → Type 0) where
  pub all_of : (xs : List A) {x : A} → All P xs → Memᴰ x xs → P x
  all_of [] h m = absurd (Memᴰ.not-nil m)
  all_of (y ∷ ys) h m = elim (Memᴰ.cases_cons m) [ inl e ↦ subst P (sym e) (All-head P y ys h) | inr k ↦ all_of ys (All-tail P y ys h) k ]

  pub all_parts : (xs ys : List A) → All P (xs ++ ys) → All P xs × All P ys
  all_parts [] ys h = (All-nil P, h)
  all_parts (x ∷ xs) ys h = let r = all_parts xs ys (All-tail P x (xs ++ ys) h) in (All-cons P x xs (All-head P x (xs ++ ys) h) r.0, r.1)

  pub when_all : (b : Bool) (x : A) → (b ≡ true → P x) → All P (when b x)
  when_all true x h = All-cons P x [] (h refl) (All-nil P)
  when_all false x h = All-nil P

  pub all_when : (b : Bool) (x : A) → All P (when b x) → b ≡ true → P x
  all_when true x h e = All-head P x [] h
  all_when false x h e = absurd (false≢true e)

  pub joined_all : {B : Type 0} (f : B → List A) (ys : List B) → ((y : B) → Memᴰ y ys → All P (f y)) → All P (flat_map f ys)
  joined_all f [] h = All-nil P
  joined_all f (y ∷ ys) h = All-append P (f y) (flat_map f ys) (h y (Memᴰ.head refl)) (joined_all f ys (λ z m. h z (Memᴰ.tail m)))

  pub all_joined : {B : Type 0} (f : B → List A) (ys : List B) {y : B} → All P (flat_map f ys) → Memᴰ y ys → All P (f y)
  all_joined f [] h m = absurd (Memᴰ.not-nil m)
  all_joined f (z ∷ ys) h m =
      let r = all_parts (f z) (flat_map f ys) h in
      elim (Memᴰ.cases_cons m) [ inl e ↦ subst (λ y. All P (f y)) (sym e) r.0 | inr k ↦ all_joined f ys r.1 k ]

-- ---- the least set that is closed under a step

-- x is added, unless it is there
abbrev insert : {A : Type 0} → Bool → A → List A → List A
insert true x D = D
insert false x D = x ∷ D

module _ {A : Type 0} (same : A → A → Bool) where
  abbrev union : List A → List A → List A
  union [] D = D
  union (x ∷ xs) D = union xs (insert (any (same x) D) x D)

  abbrev pub subset : List A → List A → Bool
  subset xs D = all (λ x. any (same x) D) xs

  -- at most n times the step, until it adds nothing
  abbrev pub saturate : (List A → List A) → ℕ → List A → List A
  saturate step zero D = D
  saturate step (suc n) D =
      let new = step D in
      let more = saturate step n (union new D) in
      cond (subset new D) D more

  module _ (P : A → Type 0) where
    insert_all : (b : Bool) (x : A) (D : List A) → P x → All P D → All P (insert b x D)
    insert_all true x D p h = h
    insert_all false x D p h = All-cons P x D p h

    union_all : (xs D : List A) → All P xs → All P D → All P (union xs D)
    union_all [] D h k = k
    union_all (x ∷ xs) D h k = union_all xs (insert (any (same x) D) x D) (All-tail P x xs h) (insert_all (any (same x) D) x D (All-head P x xs h) k)

    -- what the step keeps holds of every element
    pub saturate_all : (step : List A → List A) → ((D : List A) → All P D → All P (step D)) → (n : ℕ) (D : List A) → All P D → All P (saturate step n D)
    saturate_all step keeps zero D h = h
    saturate_all step keeps (suc n) D h =
        cond_both
        (subset (step D) D)
        D
        (saturate step n (union (step D) D))
        (All P)
        (λ _. h)
        (λ _. saturate_all step keeps n (union (step D) D) (union_all (step D) D (keeps D h) h))

  pub subset_all : ((x y : A) → Decides (same x y) (x ≡ y)) → (xs D : List A) → subset xs D ≡ true → All (λ x. Memᴰ x D) xs
  subset_all d xs D = (decides_all (λ x. any (same x) D) (λ x. decides_in same d x D) xs).0
