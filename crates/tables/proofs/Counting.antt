-- Places by production and position, and arrays that are written in order.
use Rattle.std.proofs.Common.{◌≡◌, ℕ, zero, suc, ◌+◌, ◌<◌, ◌≤◌, ◌≢◌, List, length, get_or, take, set, sym, ap, ◌∙◌, subst, ⊎_elim, arith, below_more}
use denote.Param.Members.{Mut, Called}
use Rattle.std.specs.Array.{IsFromFnResultFrom}
use Rattle.std.proofs.lemmas.List.{get_or_default, get_or-set_same, get_or-set_other, length-map, take-take}
use Rattle.std.proofs.lemmas.List.Sums.{sum_by_more, sum_by-take-le}
use Rattle.std.proofs.lemmas.Bool.{cases_eq, cases_order}
use Rattle.grammar.specs.declared.production.Production.{Production as Stored}
use Rattle.grammar.specs.Grammar.{Production, no_production, left_at, right_at, places}
use Rattle.grammar.specs.Model.{production, productions}
use Rattle.derivations.proofs.Elements.{is_at}
use Rattle.tables.specs.Places.{first_place, last_place, Firsts}

-- the elements below i + 1, once the one at i is written
pub set_more : (xs : List ℕ) (i v : ℕ) (f : ℕ → ℕ) → i < length xs → ((k : ℕ) → k < i → get_or xs k 0 ≡ f k) → v ≡ f i → (k : ℕ) → k < i + 1 → get_or (set xs i v) k 0 ≡ f k
set_more xs i v f l old new =
    below_more _ _ (λ k h. let ne : k ≢ i = omega arith in get_or-set_other xs i k v 0 ne ∙ old k h) (get_or-set_same xs i v 0 l ∙ new)

-- an array of what a closure answers at each index
module _
    {F : Type 0}
    (g : Mut F (ℕ × Unit {0}) ℕ)
    (f : F)
    (R : ℕ → ℕ → Type 0)
    (call : (k y : ℕ) (q : F) → Called g f (k, tt) y q → (q ≡ f) × R k y) where
  pub made_from : (ys : List ℕ) (i n : ℕ) → IsFromFnResultFrom g f ys i n → (k : ℕ) → i ≤ k → k < i + n → R k (get_or ys k 0)
  made_from ys i zero each k low high = absurd (omega arith)
  made_from ys i (suc n) (q, y, at, called, rest) k low high =
      let c = call i y q called in
      ⊎_elim (λ (e : k ≡ i). subst (λ m. R m (get_or ys m 0)) (sym e) (subst (R i) (sym (at.1 0)) c.1))
      (λ (e : k ≡ i → ⊥).
      made_from ys (i + 1) n (subst (λ x. IsFromFnResultFrom g x ys (i + 1) n) c.0 rest) k (omega (arith, low, e)) (omega (arith, high)))
      (cases_eq k i)

-- what the methods of the stored production that was read at i answer
module _ (ps : List Stored) (i : ℕ) (x : Stored) (l : i < length ps) (is : x ≡ get_or ps i x) where
  pub right_is : (right : List ℕ) → right ≡ (production x).right → right ≡ right_at (productions ps) i
  right_is right e = e ∙ ap (λ (p : Production). p.right) (is_at ps i x l is)

  pub left_is : (left : ℕ) → left ≡ (production x).left → left ≡ left_at (productions ps) i
  left_is left e = e ∙ ap (λ (p : Production). p.left) (is_at ps i x l is)

-- the same of the element itself
module _ (ps : List Stored) (i : ℕ) (x : Stored) (l : i < length ps) where
  pub right_there : (right : List ℕ) → right ≡ (production (get_or ps i x)).right → right ≡ right_at (productions ps) i
  right_there = right_is ps i (get_or ps i x) l (get_or_default ps i x (get_or ps i x) l)

  pub left_there : (left : ℕ) → left ≡ (production (get_or ps i x)).left → left ≡ left_at (productions ps) i
  left_there = left_is ps i (get_or ps i x) l (get_or_default ps i x (get_or ps i x) l)

-- an index of the stored productions is one of the productions
pub known_at : (ps : List Stored) (i : ℕ) → i < length ps → i < length (productions ps)
known_at ps i l = omega (arith, length-map ps production)

pub stored_at : (ps : List Stored) (i : ℕ) → i < length (productions ps) → i < length ps
stored_at ps i l = omega (arith, length-map ps production)

module _ (ps : List Production) where
  -- the production after p begins behind the last place of p
  pub place_next : (p : ℕ) → p < length ps → first_place ps (p + 1) ≡ last_place ps p + 1
  place_next p l = omega (arith, sum_by_more (λ (q : Production). length q.right + 1) ps p no_production l)

  within : (p n : ℕ) → p ≤ n → first_place ps p ≤ first_place ps n
  within p n h =
      rw (ap places (take-take p n ps h)) at (sum_by-take-le (λ (q : Production). length q.right + 1) (take n ps) p)

  -- every place lies below their number
  pub last_low : (p : ℕ) → p < length ps → last_place ps p < places ps
  last_low p l = omega (arith, place_next p l, sum_by-take-le (λ (q : Production). length q.right + 1) ps (p + 1))

  -- the productions follow each other
  pub places_apart : (p q : ℕ) → p < q → q < length ps → last_place ps p < first_place ps q
  places_apart p q h l = omega (arith, place_next p (omega arith), within (p + 1) q (omega arith))

  -- a place is one production's, at one position
  pub place_unique :
      (p k q j : ℕ) →
      p < length ps →
      k ≤ length (right_at ps p) →
      q < length ps →
      j ≤ length (right_at ps q) →
      first_place ps p + k ≡ first_place ps q + j →
      (p ≡ q) × (k ≡ j)
  place_unique p k q j lp lk lq lj e =
      ⊎_elim (λ (s : p ≡ q). (s, omega (arith, ap (first_place ps) s)))
      (⊎_elim (λ (h : p < q). absurd (omega (arith, places_apart p q h lq))) (λ (h : q < p). absurd (omega (arith, places_apart q p h lp))))
      (cases_order p q)

-- the place of a position of the production p, by a list of the first places
pub place_small :
    (ps : List Stored) (first : List ℕ) (p k : ℕ) →
    Firsts (productions ps) first →
    places (productions ps) ≤ 128 →
    p < length ps →
    k < length (right_at (productions ps) p) →
    get_or first p 0 + k < 128
place_small ps first p k begins small l lk = omega (arith, last_low (productions ps) p (known_at ps p l), small, begins p (known_at ps p l), lk)
