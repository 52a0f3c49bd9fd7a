-- Lists with the same members, each once, have the same total.
use Rattle.std.proofs.Common.{◌≡◌, List, [], ◌∷◌, sym, refl, ap, ◌∙◌, inl, inr}
use mathlib.Core.List.Memᴰ
use mathlib.Core.List.{Memᴰ}
use Rattle.score_theory.specs.Totals.{Distinct, distinct_more, Enumerates, Commutative, total, OneTotal}

-- the list without the member that stands there
abbrev removed : {A : Type 0} {x : A} {xs : List A} → Memᴰ x xs → List A
removed (Memᴰ.head {xs = xs} e) = xs
removed (Memᴰ.tail {x = y} m) = y ∷ removed m

still : {A : Type 0} {x z : A} {xs : List A} (m : Memᴰ x xs) → Memᴰ z xs → (¬ (z ≡ x)) → Memᴰ z (removed m)
still (Memᴰ.head e) h other = elim (Memᴰ.cases_cons h) [ inl same ↦ absurd (other (same ∙ sym e)) | inr k ↦ k ]
still (Memᴰ.tail m) h other = elim (Memᴰ.cases_cons h) [ inl same ↦ Memᴰ.head same | inr k ↦ Memᴰ.tail (still m k other) ]

was : {A : Type 0} {x z : A} {xs : List A} (m : Memᴰ x xs) → Memᴰ z (removed m) → Memᴰ z xs
was (Memᴰ.head e) h = Memᴰ.tail h
was (Memᴰ.tail m) h = elim (Memᴰ.cases_cons h) [ inl same ↦ Memᴰ.head same | inr k ↦ Memᴰ.tail (was m k) ]

distinct_tail : {A : Type 0} {x : A} {xs : List A} → Distinct (x ∷ xs) → Distinct xs
distinct_tail (distinct_more new d) = d

distinct_head : {A : Type 0} {x : A} {xs : List A} → Distinct (x ∷ xs) → ¬ Memᴰ x xs
distinct_head (distinct_more new d) = new

distinct_removed : {A : Type 0} {x : A} {xs : List A} (m : Memᴰ x xs) → Distinct xs → Distinct (removed m)
distinct_removed (Memᴰ.head e) d = distinct_tail d
distinct_removed (Memᴰ.tail m) d = distinct_more (λ h. distinct_head d (was m h)) (distinct_removed m (distinct_tail d))

gone : {A : Type 0} {x : A} {xs : List A} (m : Memᴰ x xs) → Distinct xs → ¬ Memᴰ x (removed m)
gone (Memᴰ.head e) d h = distinct_head d (Memᴰ.cast (sym e) h)
gone (Memᴰ.tail m) d h =
    elim (Memᴰ.cases_cons h) [
      | inl same ↦ distinct_head d (Memᴰ.cast (sym same) m)
      | inr k ↦ gone m (distinct_tail d) k
    ]

module _ {A M : Type 0} {none : M} {plus : M → M → M} (laws : Commutative none plus) (f : A → M) where
  total_removed : {x : A} {xs : List A} (m : Memᴰ x xs) → total none plus f xs ≡ plus (f x) (total none plus f (removed m))
  total_removed (Memᴰ.head {xs = xs} e) = ap (λ y. plus (f y) (total none plus f xs)) (sym e)
  total_removed {x} (Memᴰ.tail {x = y} {xs = xs} m) =
      let rest = total none plus f (removed m) in
      ap (plus (f y)) (total_removed m)
      ∙ sym (laws.assoc (f y) (f x) rest)
      ∙ ap (λ v. plus v rest) (laws.comm (f y) (f x))
      ∙ laws.assoc (f x) (f y) rest

  same_total :
      (xs ys : List A) →
      Distinct xs →
      Distinct ys →
      ((z : A) → Memᴰ z xs → Memᴰ z ys) →
      ((z : A) → Memᴰ z ys → Memᴰ z xs) →
      total none plus f xs ≡ total none plus f ys
  same_total [] [] dx dy to back = refl
  same_total [] (y ∷ ys) dx dy to back = absurd (Memᴰ.not-nil (back y (Memᴰ.head refl)))
  same_total (x ∷ xs) ys dx dy to back =
      let m = to x (Memᴰ.head refl) in
      let to' : (z : A) → Memᴰ z xs → Memᴰ z (removed m) = λ z h. still m (to z (Memᴰ.tail h)) (λ e. distinct_head dx (Memᴰ.cast (sym e) h)) in
      let back' : (z : A) → Memᴰ z (removed m) → Memᴰ z xs = λ z h.
      elim (Memᴰ.cases_cons (back z (was m h))) [ inl e ↦ absurd (gone m dy (Memᴰ.cast (sym e) h)) | inr k ↦ k ] in
      ap (plus (f x)) (same_total xs (removed m) (distinct_tail dx) (distinct_removed m dy) to' back') ∙ sym (total_removed m)

  -- two lists of all with a property have one total
  pub enumerated_total : {P : A → Type 0} {xs ys : List A} → Enumerates P xs → Enumerates P ys → total none plus f xs ≡ total none plus f ys
  enumerated_total {xs = xs} {ys = ys} all all' =
      same_total xs ys all.once all'.once (λ z h. (all'.each z).1 ((all.each z).0 h)) (λ z h. (all.each z).1 ((all'.each z).0 h))

pub one_total : (A M : Type 0) → OneTotal A M
one_total A M none plus laws f xs ys dx dy same = same_total laws f xs ys dx dy (λ z. (same z).0) (λ z. (same z).1)
