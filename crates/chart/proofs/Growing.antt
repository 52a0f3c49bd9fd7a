-- Bits that come into cells.
use Rattle.std.proofs.Common.{◌≡◌, ℕ, ◌+◌, ◌-◌, ◌/◌, ◌%◌, ◌^◌, ◌<◌, ◌≤◌, Bool, true, false, cond, not, ◌||◌, eqb, ◌≢◌, ◌⊎◌, ◌↔◌, List, length, get_or, set, sym, refl, ap, ◌∙◌, subst, inl, inr, ⊎_elim, arith, length-set, get_or-set_other, get_or-set_same}
use lib.Seq.{set-get_or}
use lib.Bits.{bit_or, bit_and, or_lt}
use Rattle.std.proofs.lemmas.Nat.{pow_below}
use Rattle.std.proofs.lemmas.List.Sums.{sum_by-set}
use Rattle.std.proofs.lemmas.Bool.{cases_eq, cases_Bool, eqb-true, eqb-false, or_parts, not-false}
use Rattle.bitset.specs.Bits.{bit, Has}
use Rattle.bitset.proofs.Digits.{none_of_zero, or_has, or_one_has, or_grows}
use Rattle.bitset.specs.Cells.{InSet}
use Rattle.chart.specs.Cells.{room, Grows, Added, Joined, Advanced}
use Rattle.chart.proofs.Halves.{by_half, low_cell, high_cell, low_half, high_half}

-- ---- nothing is lost

pub still : (a : List ℕ) → Grows a a false
still a = record { grows = λ k e h. h; less = omega arith; quiet = λ _. refl }

or_less : (a b c : ℕ) (r s : Bool) → b + cond r 1 0 ≤ a → c + cond s 1 0 ≤ b → c + cond (r || s) 1 0 ≤ a
or_less a b c true s h k = omega arith
or_less a b c false s h k = omega arith

pub then_grows : {a b c : List ℕ} {r s : Bool} → Grows a b r → Grows b c s → Grows a c (r || s)
then_grows {a} {b} {c} {r} {s} f g = record {
  grows = λ k e h. g.grows k e (f.grows k e h);
  less = or_less (room a) (room b) (room c) r s f.less g.less;
  quiet = λ no. g.quiet (or_parts r s no).1 ∙ f.quiet (or_parts r s no).0;
}

-- a place stays marked
pub kept : {a b : List ℕ} {r : Bool} → Grows a b r → (at d : ℕ) → InSet a at d → InSet b at d
kept g at d h = g.grows (at + d / 64) (d % 64) h

-- sets in cells that are alike
pub same_set : (a b : List ℕ) (at d : ℕ) → get_or b (at + d / 64) 0 ≡ get_or a (at + d / 64) 0 → InSet a at d → InSet b at d
same_set a b at d e h = subst (λ x. Has x (d % 64)) (sym e) h

pub blank_set : (a : List ℕ) (at d : ℕ) → get_or a (at + d / 64) 0 ≡ 0 → ¬ InSet a at d
blank_set a at d e h = none_of_zero (d % 64) (subst (λ x. Has x (d % 64)) e h)

-- ---- one cell is written

set_same : (cells : List ℕ) (k v : ℕ) → k < length cells → get_or cells k 0 ≡ v → set cells k v ≡ cells
set_same cells k v h e = ap (set cells k) (sym e) ∙ set-get_or cells k 0

at_set : (cells : List ℕ) (k v : ℕ) → k < length cells → get_or (set cells k v) k 0 ≡ v
at_set cells k v h = rw get_or-set_same refl

off_set : (cells : List ℕ) (k v m : ℕ) → (¬ (m ≡ k)) → get_or (set cells k v) m 0 ≡ get_or cells m 0
off_set cells k v m h = let ne : m ≢ k = h in rw get_or-set_other refl

room_falls :
    (cells : List ℕ) (i new : ℕ) → i < length cells → get_or cells i 0 < new → new < 2 ^ 64 →
    room (set cells i new) + 1 ≤ room cells
unfolding room
room_falls cells i new h l f = omega (arith, sum_by-set (λ c. 2 ^ 64 - 1 - c) cells i new 0 h)

pub joined :
    (a : List ℕ) (k w : ℕ) → k < length a → get_or a k 0 < 2 ^ 64 → w < 2 ^ 64 →
    Grows a (set a k (bit_or (get_or a k 0) w)) (not (eqb (bit_or (get_or a k 0) w) (get_or a k 0)))
joined a k w h f g =
    let x = get_or a k 0 in
    let y = bit_or x w in
    record {
      grows = λ m e s.
          ⊎_elim
          (λ (q : m ≡ k). subst (λ n. Has n e) (sym (ap (λ i. get_or (set a k y) i 0) q ∙ at_set a k y h))
          ((or_has x w e).1 (inl (subst (λ i. Has (get_or a i 0) e) q s))))
          (λ (n : ¬ (m ≡ k)). subst (λ n. Has n e) (sym (off_set a k y m n)) s)
          (cases_eq m k);
      less =
          elim (cases_Bool (eqb y x)) [
            | inl t ↦ rw t (let e = set_same a k y h (sym (eqb-true y x t)) in rw e (omega arith))
            | inr n ↦ rw n (
                let up : x < y = omega (arith, eqb-false y x n, or_grows x w) in
                room_falls a k y h up (or_lt 64 x w f g))
          ];
      quiet = λ no. set_same a k y h (sym (eqb-true y x (not-false _ no)));
    }

-- the same of cells that are so, and of an answer that is so
pub joined_by :
    (a b : List ℕ) (k w : ℕ) (r : Bool) → k < length a → get_or a k 0 < 2 ^ 64 → w < 2 ^ 64 →
    b ≡ set a k (bit_or (get_or a k 0) w) →
    r ≡ not (eqb (bit_or (get_or a k 0) w) (get_or a k 0)) →
    Grows a b r
joined_by a b k w r h f g e v = subst (λ c. Grows a c r) (sym e) (subst (λ s. Grows a (set a k (bit_or (get_or a k 0) w)) s) (sym v) (joined a k w h f g))

-- ---- one place comes in

pub marked_grows :
    (a b : List ℕ) (at d : ℕ) (r : Bool) → at + 1 < length a → d < 128 → get_or a (at + d / 64) 0 < 2 ^ 64 →
    b ≡ set a (at + d / 64) (bit_or (get_or a (at + d / 64) 0) (2 ^ (d % 64))) → (r ≡ true → ¬ InSet a at d) →
    (r ≡ false → b ≡ a) → Grows a b r
marked_grows a b at d r h l f e came stayed =
    let k = at + d / 64 in
    let x = get_or a k 0 in
    let w = 2 ^ (d % 64) in
    let i : k < length a = omega arith in
    let fits : w < 2 ^ 64 = pow_below (d % 64) 64 (omega arith) in
    let new : Has (bit_or x w) (d % 64) = (or_one_has x (d % 64) (d % 64)).1 (inr refl) in
    record {
      grows = subst (λ c. (m n : ℕ) → Has (get_or a m 0) n → Has (get_or c m 0) n) (sym e) (joined a k w i f fits).grows;
      less =
          elim (cases_Bool r) [
            | inl t ↦ rw t (rw e (
                let n : ¬ (bit_or x w ≡ x) = λ q. came t (subst (λ n. Has n (d % 64)) q new) in
                let up : x < bit_or x w = omega (arith, n, or_grows x w) in
                room_falls a k (bit_or x w) i up (or_lt 64 x w f fits)))
            | inr n ↦ rw n (rw (stayed n) (omega arith))
          ];
      quiet = stayed;
    }

pub added :
    (a b : List ℕ) (at d : ℕ) (r : Bool) → at + 1 < length a → d < 128 →
    b ≡ set a (at + d / 64) (bit_or (get_or a (at + d / 64) 0) (2 ^ (d % 64))) → Grows a b r → Added at d a b r
added a b at d r h l e g =
    let k = at + d / 64 in
    let x = get_or a k 0 in
    let w = 2 ^ (d % 64) in
    let i : k < length a = omega arith in
    let here : get_or b k 0 ≡ bit_or x w = ap (λ c. get_or c k 0) e ∙ at_set a k (bit_or x w) i in
    let there : (m : ℕ) → (¬ (m ≡ k)) → get_or b m 0 ≡ get_or a m 0 = λ m n. ap (λ c. get_or c m 0) e ∙ off_set a k (bit_or x w) m n in
    record {
      growth = g;
      other = there;
      makes = subst (λ n. Has n (d % 64)) (sym here) ((or_one_has x (d % 64) (d % 64)).1 (inr refl));
      only = λ f m s.
          ⊎_elim
          (λ (q : at + f / 64 ≡ k).
          let t : Has (bit_or x w) (f % 64) = subst (λ n. Has n (f % 64)) (ap (λ i. get_or b i 0) q ∙ here) s in
          ⊎_elim
          (λ (y : Has x (f % 64)). inl (subst (λ i. Has (get_or a i 0) (f % 64)) (sym q) y))
          (λ (z : f % 64 ≡ d % 64). inr (omega arith))
          ((or_one_has x (d % 64) (f % 64)).0 t))
          (λ (n : ¬ (at + f / 64 ≡ k)). inl (subst (λ n. Has n (f % 64)) (there (at + f / 64) n) s))
          (cases_eq (at + f / 64) k);
    }

-- ---- places come into a set

-- what two cells hold, once the words are joined to them
record Written (to lo hi : ℕ) (a b : List ℕ) : Type 0 where
  low : get_or b to 0 ≡ bit_or (get_or a to 0) lo
  high : get_or b (to + 1) 0 ≡ bit_or (get_or a (to + 1) 0) hi
  rest : (k : ℕ) → (¬ (k ≡ to)) → (¬ (k ≡ to + 1)) → get_or b k 0 ≡ get_or a k 0

written : (to lo hi : ℕ) (a b e : List ℕ) → to + 1 < length a →
    b ≡ set a to (bit_or (get_or a to 0) lo) → e ≡ set b (to + 1) (bit_or (get_or b (to + 1) 0) hi) → Written to lo hi a e
written to lo hi a b e h p q =
    let w = bit_or (get_or b (to + 1) 0) hi in
    let x = bit_or (get_or a to 0) lo in
    let long : to + 1 < length b = omega (arith, ap length p, length-set a to x) in
    let one : (k : ℕ) → (¬ (k ≡ to)) → get_or b k 0 ≡ get_or a k 0 = λ k n. ap (λ c. get_or c k 0) p ∙ off_set a to x k n in
    let two : (k : ℕ) → (¬ (k ≡ to + 1)) → get_or e k 0 ≡ get_or b k 0 = λ k n. ap (λ c. get_or c k 0) q ∙ off_set b (to + 1) w k n in
    record {
      low = two to (λ n. omega arith) ∙ ap (λ c. get_or c to 0) p ∙ at_set a to x (omega arith);
      high = ap (λ c. get_or c (to + 1) 0) q ∙ at_set b (to + 1) w long ∙ ap (λ n. bit_or n hi) (one (to + 1) (λ n. omega arith));
      rest = λ k n o. two k o ∙ one k n;
    }

-- of one bit: what was there, or what was joined
one_bit : (now was p x w d : ℕ) → now ≡ bit (bit_or x w) d → was ≡ bit x d → bit w d ≡ p → (now ≡ 1) ↔ ((was ≡ 1) ⊎ (p ≡ 1))
one_bit now was p x w d e f g = (
  λ s. ⊎_elim (λ (old : Has x d). inl (f ∙ old)) (λ (new : Has w d). inr (sym g ∙ new)) ((or_has x w d).0 (sym e ∙ s)),
  λ o. e ∙ (or_has x w d).1 (⊎_elim (λ (old : was ≡ 1). inl (sym f ∙ old)) (λ (new : p ≡ 1). inr (g ∙ new)) o),
)

pub joins : (to p : ℕ) (a b e : List ℕ) (r : Bool) → to + 1 < length a →
    b ≡ set a to (bit_or (get_or a to 0) (bit_and p (2 ^ 64 - 1))) → e ≡ set b (to + 1) (bit_or (get_or b (to + 1) 0) (p / 2 ^ 64)) →
    Grows a e r → Joined to p a e r
joins to p a b e r h f g grows =
    let lo = bit_and p (2 ^ 64 - 1) in
    let hi = p / 2 ^ 64 in
    let w = written to lo hi a b e h f g in
    record {
      growth = grows;
      other = w.rest;
      holds = by_half (λ d. InSet e to d ↔ (InSet a to d ⊎ Has p d))
          (λ d l. one_bit _ _ _ (get_or a to 0) lo d (low_cell e to d l ∙ ap (λ n. bit n d) w.low) (low_cell a to d l) (low_half p d l))
          (λ d l.
          one_bit _ _ _ (get_or a (to + 1) 0) hi d (high_cell e to d l ∙ ap (λ n. bit n d) w.high) (high_cell a to d l) (high_half p d));
    }

-- ---- a set goes one place up

pub advanced :
    (to from : ℕ) (mask p n : ℕ) (a b : List ℕ) (r : Bool) →
    ((d : ℕ) → d < 128 → Has p d ↔ (InSet a from d × Has mask d)) → (¬ Has n 0) →
    ((d : ℕ) → d + 1 < 128 → Has n (d + 1) ↔ Has p d) → Joined to n a b r → Advanced to from mask a b r
advanced to from mask p n a b r both none up j = record {
  growth = j.growth;
  other = j.other;
  makes = λ d l s t. (j.holds (d + 1) l).1 (inr ((up d l).1 ((both d (omega arith)).1 (s, t))));
  only = λ d l s.
      ⊎_elim (λ (old : InSet a to d). inl old)
      (λ (new : Has n d). inr (
      let pos : ¬ (d ≡ 0) = λ z. none (subst (Has n) z new) in
      let e = d - 1 in
      let q : d ≡ e + 1 = omega (arith, pos) in
      let was = (both e (omega arith)).0 ((up e (omega arith)).0 (subst (Has n) q new)) in
      (e, q, was.0, was.1)))
      ((j.holds d l).0 s);
}
