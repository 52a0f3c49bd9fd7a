-- The order of listings.
use Rattle.std.proofs.Common.{◌≡◌, ◌⊎◌, List, [], ◌∷◌, ◌++◌, sym, refl, ◌∙◌, subst, inl, inr, arith}
use native.Mathlib.Decide.{dec_lt}
use Rattle.listing_theory.specs.declared.record.Record.{Record}
use Rattle.listing_theory.specs.Listings.{Less, Before}

-- which of two comes first, if they differ
abbrev pub Compared : List Record → List Record → Type 0
Compared xs ys = (xs ≡ ys) ⊎ (Before xs ys ⊎ Before ys xs)

same_record : (x y : Record) → x.production ≡ y.production → x.start ≡ y.start → x.end ≡ y.end → x ≡ y
same_record x y p f t = λ i. record { production = p i; start = f i; end = t i }

pub compare_records : (x y : Record) → (x ≡ y) ⊎ (Less x y ⊎ Less y x)
compare_records x y =
    elim (dec_lt x.production y.production) [
      | yes l ↦ inr (inl (inl l))
      | no l ↦ elim (dec_lt y.production x.production) [
        | yes m ↦ inr (inr (inl m))
        | no m ↦
            let e : x.production ≡ y.production = omega arith in
            elim (dec_lt x.start y.start) [
              | yes n ↦ inr (inl (inr (e, inl n)))
              | no n ↦ elim (dec_lt y.start x.start) [
                | yes o ↦ inr (inr (inr (sym e, inl o)))
                | no o ↦
                    let f : x.start ≡ y.start = omega arith in
                    elim (dec_lt x.end y.end) [
                      | yes u ↦ inr (inl (inr (e, inr (f, u))))
                      | no u ↦ elim (dec_lt y.end x.end) [
                        | yes v ↦ inr (inr (inr (sym e, inr (sym f, v))))
                        | no v ↦ inl (same_record x y e f (omega arith))
                      ]
                    ]
              ]
            ]
      ]
    ]

less_self : (x : Record) → ¬ Less x x
less_self x (inl l) = omega arith
less_self x (inr (e, inl l)) = omega arith
less_self x (inr (e, inr (f, l))) = omega arith

less_onward : (x y z : Record) → Less x y → Less y z → Less x z
less_onward x y z (inl l) (inl m) = inl (omega arith)
less_onward x y z (inl l) (inr (e, m)) = inl (omega arith)
less_onward x y z (inr (e, l)) (inl m) = inl (omega arith)
less_onward x y z (inr (e, inl l)) (inr (f, inl m)) = inr (e ∙ f, inl (omega arith))
less_onward x y z (inr (e, inl l)) (inr (f, inr (inner, m))) = inr (e ∙ f, inl (omega arith))
less_onward x y z (inr (e, inr (h, l))) (inr (f, inl m)) = inr (e ∙ f, inl (omega arith))
less_onward x y z (inr (e, inr (h, l))) (inr (f, inr (inner, m))) = inr (e ∙ f, inr (h ∙ inner, omega arith))

pub before_self : (xs : List Record) → ¬ Before xs xs
before_self [] h = h
before_self (x ∷ xs) (inl l) = less_self x l
before_self (x ∷ xs) (inr (e, h)) = before_self xs h

pub before_onward : (xs ys zs : List Record) → Before xs ys → Before ys zs → Before xs zs
before_onward [] ys zs h k = absurd h
before_onward (x ∷ xs) [] zs h k = absurd h
before_onward (x ∷ xs) (y ∷ ys) [] h k = absurd k
before_onward (x ∷ xs) (y ∷ ys) (z ∷ zs) (inl l) (inl m) = inl (less_onward x y z l m)
before_onward (x ∷ xs) (y ∷ ys) (z ∷ zs) (inl l) (inr (e, k)) = inl (subst (Less x) e l)
before_onward (x ∷ xs) (y ∷ ys) (z ∷ zs) (inr (e, h)) (inl m) = inl (subst (λ u. Less u z) (sym e) m)
before_onward (x ∷ xs) (y ∷ ys) (z ∷ zs) (inr (e, h)) (inr (f, k)) = inr (e ∙ f, before_onward xs ys zs h k)

pub before_both : (xs ys : List Record) → Before xs ys → ¬ Before ys xs
before_both xs ys h k = before_self xs (before_onward xs ys xs h k)

-- whatever stands behind
pub before_append : (xs ys us vs : List Record) → Before xs ys → Before (xs ++ us) (ys ++ vs)
before_append [] ys us vs h = absurd h
before_append (x ∷ xs) [] us vs h = absurd h
before_append (x ∷ xs) (y ∷ ys) us vs (inl l) = inl l
before_append (x ∷ xs) (y ∷ ys) us vs (inr (e, h)) = inr (e, before_append xs ys us vs h)

-- behind the same records
pub before_behind : (xs us vs : List Record) → Before us vs → Before (xs ++ us) (xs ++ vs)
before_behind [] us vs h = h
before_behind (x ∷ xs) us vs h = inr (refl, before_behind xs us vs h)

pub before_inside : (xs us vs : List Record) → Before (xs ++ us) (xs ++ vs) → Before us vs
before_inside [] us vs h = h
before_inside (x ∷ xs) us vs (inl l) = absurd (less_self x l)
before_inside (x ∷ xs) us vs (inr (e, h)) = before_inside xs us vs h

-- where xs and ys are compared, the order of what begins with them is theirs, or that of what stands behind
pub before_parts : (xs ys us vs : List Record) → Compared xs ys → Before (xs ++ us) (ys ++ vs) → Before xs ys ⊎ ((xs ≡ ys) × Before us vs)
before_parts xs ys us vs (inl e) h = inr (e, before_inside ys us vs (subst (λ l. Before (l ++ us) (ys ++ vs)) e h))
before_parts xs ys us vs (inr (inl l)) h = inl l
before_parts xs ys us vs (inr (inr l)) h = absurd (before_both (xs ++ us) (ys ++ vs) h (before_append ys xs vs us l))

pub compared_append : (xs ys us vs : List Record) → Compared xs ys → Compared us vs → Compared (xs ++ us) (ys ++ vs)
compared_append xs ys us vs (inr (inl l)) d = inr (inl (before_append xs ys us vs l))
compared_append xs ys us vs (inr (inr l)) d = inr (inr (before_append ys xs vs us l))
compared_append xs ys us vs (inl e) (inl f) = inl (rw (e, f))
compared_append xs ys us vs (inl e) (inr (inl l)) = inr (inl (rw e (before_behind ys us vs l)))
compared_append xs ys us vs (inl e) (inr (inr l)) = inr (inr (rw e (before_behind ys vs us l)))

pub compared_cons : (x y : Record) (us vs : List Record) → (x ≡ y → Compared us vs) → Compared (x ∷ us) (y ∷ vs)
compared_cons x y us vs d =
    elim (compare_records x y) [
      | inr (inl l) ↦ inr (inl (inl l))
      | inr (inr l) ↦ inr (inr (inl l))
      | inl e ↦ elim (d e) [
        | inl f ↦ inl (cc)
        | inr (inl l) ↦ inr (inl (inr (e, l)))
        | inr (inr l) ↦ inr (inr (inr (sym e, l)))
      ]
    ]
