-- The order of listings, with tests that compute.
use Rattle.std.proofs.Common.{◌≡◌, Bool, true, false, ◌&&◌, ◌||◌, eqb, ltb, List, [], ◌∷◌, Decides, refl, ap, subst}
use Rattle.std.proofs.lemmas.Bool.{false≢true, and_parts, and_from}
use Rattle.std.proofs.lemmas.Bool.Decides.{Decides-like, Decides-and, Decides-or, Decides-eqb, Decides-ltb}
use Rattle.listing_theory.specs.declared.record.Record.{Record}
use Rattle.listing_theory.specs.Listings.{Less, Before}

abbrev same_record : Record → Record → Bool
same_record x y = eqb x.production y.production && (eqb x.start y.start && eqb x.end y.end)

decides_record : (x y : Record) → Decides (same_record x y) (x ≡ y)
decides_record x y =
    Decides-like
    _
    (λ h i. record { production = h.0 i; start = h.1.0 i; end = h.1.1 i })
    (λ e. (ap (λ (z : Record). z.production) e, (ap (λ (z : Record). z.start) e, ap (λ (z : Record). z.end) e)))
    (Decides-and _ _ (Decides-eqb x.production y.production) (Decides-and _ _ (Decides-eqb x.start y.start) (Decides-eqb x.end y.end)))

abbrev pub same_records : List Record → List Record → Bool
same_records [] [] = true
same_records [] (y ∷ ys) = false
same_records (x ∷ xs) [] = false
same_records (x ∷ xs) (y ∷ ys) = same_record x y && same_records xs ys

records_same : (xs ys : List Record) → same_records xs ys ≡ true → xs ≡ ys
records_same [] [] e = refl
records_same [] (y ∷ ys) e = absurd (false≢true e)
records_same (x ∷ xs) [] e = absurd (false≢true e)
records_same (x ∷ xs) (y ∷ ys) e =
    let r = and_parts (same_record x y) (same_records xs ys) e in
    let e₁ = (decides_record x y).0 r.0 in
    let e₂ = records_same xs ys r.1 in
    λ i. e₁ i ∷ e₂ i

records_itself : (xs : List Record) → same_records xs xs ≡ true
records_itself [] = refl
records_itself (x ∷ xs) = and_from (same_record x x) (same_records xs xs) ((decides_record x x).1 refl) (records_itself xs)

pub decides_records : (xs ys : List Record) → Decides (same_records xs ys) (xs ≡ ys)
decides_records xs ys = (records_same xs ys, λ e. subst (λ z. same_records xs z ≡ true) e (records_itself xs))

abbrev less : Record → Record → Bool
less x y =
    ltb x.production y.production
    || (eqb x.production y.production && (ltb x.start y.start || (eqb x.start y.start && ltb x.end y.end)))

decides_less : (x y : Record) → Decides (less x y) (Less x y)
decides_less x y =
    Decides-or _ _ (Decides-ltb x.production y.production)
    (Decides-and _ _ (Decides-eqb x.production y.production)
    (Decides-or _ _ (Decides-ltb x.start y.start)
    (Decides-and _ _ (Decides-eqb x.start y.start) (Decides-ltb x.end y.end))))

abbrev pub before : List Record → List Record → Bool
before [] ys = false
before (x ∷ xs) [] = false
before (x ∷ xs) (y ∷ ys) = less x y || (same_record x y && before xs ys)

pub decides_before : (xs ys : List Record) → Decides (before xs ys) (Before xs ys)
decides_before [] ys = (λ e. absurd (false≢true e), λ h. absurd h)
decides_before (x ∷ xs) [] = (λ e. absurd (false≢true e), λ h. absurd h)
decides_before (x ∷ xs) (y ∷ ys) = Decides-or _ _ (decides_less x y) (Decides-and _ _ (decides_record x y) (decides_before xs ys))
