-- Sets of places as numbers of 128 bits, and in two cells.
use Rattle.std.proofs.Common.{◌≡◌, ℕ, ◌+◌, ◌-◌, ◌*◌, ◌/◌, ◌%◌, ◌^◌, ◌<◌, ◌≤◌, ◌↔◌, List, get_or, sym, ap, ◌∙◌, subst, inl, inr, ⊎_elim, arith}
use lib.Bits.{bit_or, bit_and, and_le_l, and_mask}
use Rattle.std.proofs.lemmas.Nat.{shl-shr, shr-shr, field_of, pow-add, pow_pos}
use Rattle.std.proofs.lemmas.Bool.{cases_lt}
use Rattle.bitset.specs.Bits.{bit, Has}
use Rattle.bitset.specs.Cells.{InSet}
use Rattle.bitset.proofs.Digits.{none_past, none_of_zero, or_has}
use Rattle.chart.specs.Cells.{IsSet, Meets}
use Rattle.chart.proofs.Digits.{and_has, mod_low_bit, some_bit}

-- cases on a place: in the first cell, or in the second
pub by_half : (P : ℕ → Type 0) → ((d : ℕ) → d < 64 → P d) → ((d : ℕ) → d < 64 → P (64 + d)) → (d : ℕ) → d < 128 → P d
by_half P low high d h =
    ⊎_elim (λ (l : d < 64). low d l)
    (λ (g : 64 ≤ d). let e : 64 + (d - 64) ≡ d = omega arith in subst P e (high (d - 64) (omega arith)))
    (cases_lt d 64)

pub low_cell : (cells : List ℕ) (at d : ℕ) → d < 64 → bit (get_or cells (at + d / 64) 0) (d % 64) ≡ bit (get_or cells at 0) d
low_cell cells at d l = let q : at + d / 64 ≡ at = omega arith in let r : d % 64 ≡ d = omega arith in cc

pub high_cell :
    (cells : List ℕ) (at d : ℕ) → d < 64 →
    bit (get_or cells (at + (64 + d) / 64) 0) ((64 + d) % 64) ≡ bit (get_or cells (at + 1) 0) d
high_cell cells at d l = let q : at + (64 + d) / 64 ≡ at + 1 = omega arith in let r : (64 + d) % 64 ≡ d = omega arith in cc

-- the halves of a number

low_bits : (p d : ℕ) → d < 64 → bit (p % 2 ^ 64) d ≡ bit p d
unfolding bit
low_bits p d h =
    let j = 63 - d in
    let w : 64 ≡ (j + 1) + d = omega arith in
    ap (λ (k : ℕ). p % 2 ^ k / 2 ^ d % 2) w ∙ ap (λ n. n % 2) (field_of p (j + 1) d) ∙ mod_low_bit (p / 2 ^ d) j

pub low_half : (p d : ℕ) → d < 64 → bit (bit_and p (2 ^ 64 - 1)) d ≡ bit p d
low_half p d h = ap (λ n. bit n d) (and_mask p 64) ∙ low_bits p d h

pub high_half : (p d : ℕ) → bit (p / 2 ^ 64) d ≡ bit p (64 + d)
unfolding bit
high_half p d = ap (λ n. n % 2) (shr-shr p 64 d)

-- the number of two halves

abbrev pub whole : ℕ → ℕ → ℕ
whole lo hi = bit_or lo (hi * 2 ^ 64 % 2 ^ 128)

shifted_low : (n d : ℕ) → d < 64 → ¬ Has (n * 2 ^ 64) d
shifted_low n d h s =
    let z : n * 2 ^ 64 % 2 ^ 64 ≡ 0 = omega arith in
    none_of_zero d (subst (λ m. Has m d) z (low_bits (n * 2 ^ 64) d h ∙ s))

shifted_high : (n d : ℕ) → bit (n * 2 ^ 64) (64 + d) ≡ bit n d
unfolding bit
shifted_high n d = ap (λ m. m % 2) (sym (shr-shr (n * 2 ^ 64) 64 d)) ∙ ap (λ m. m / 2 ^ d % 2) (shl-shr n 64)

none_above : (lo d : ℕ) → lo < 2 ^ 64 → ¬ Has lo (64 + d)
none_above lo d f = none_past lo (64 + d) (let p : 2 ^ 64 ≤ 2 ^ (64 + d) = omega (arith, pow-add 2 64 d, pow_pos d) in omega arith)

pub is_set : (cells : List ℕ) (x : ℕ) → get_or cells (2 * x) 0 < 2 ^ 64 → get_or cells (2 * x + 1) 0 < 2 ^ 64 →
    IsSet (whole (get_or cells (2 * x) 0) (get_or cells (2 * x + 1) 0)) cells x
is_set cells x f g =
    let at = 2 * x in
    let lo = get_or cells at 0 in
    let hi = get_or cells (at + 1) 0 in
    let e : hi * 2 ^ 64 % 2 ^ 128 ≡ hi * 2 ^ 64 = omega arith in
    by_half (λ d. Has (whole lo hi) d ↔ InSet cells at d)
    (λ d l. (
      λ h.
          low_cell cells at d l
          ∙ ⊎_elim (λ (s : Has lo d). s) (λ (s : Has (hi * 2 ^ 64 % 2 ^ 128) d). absurd (shifted_low hi d l (subst (λ n. Has n d) e s)))
          ((or_has lo (hi * 2 ^ 64 % 2 ^ 128) d).0 h),
      λ h. (or_has lo (hi * 2 ^ 64 % 2 ^ 128) d).1 (inl (sym (low_cell cells at d l) ∙ h)),
    ))
    (λ d l. (
      λ h.
          high_cell cells at d l
          ∙ ⊎_elim (λ (s : Has lo (64 + d)). absurd (none_above lo d f s))
          (λ (s : Has (hi * 2 ^ 64 % 2 ^ 128) (64 + d)). sym (shifted_high hi d) ∙ subst (λ n. Has n (64 + d)) e s)
          ((or_has lo (hi * 2 ^ 64 % 2 ^ 128) (64 + d)).0 h),
      λ h.
          (or_has lo (hi * 2 ^ 64 % 2 ^ 128) (64 + d)).1
          (inr (subst (λ n. Has n (64 + d)) (sym e) (shifted_high hi d ∙ sym (high_cell cells at d l) ∙ h))),
    ))

-- two sets that meet, and two that do not

pub some_place : (p q : ℕ) → p < 2 ^ 128 → (¬ (bit_and p q ≡ 0)) → Meets p q
some_place p q f h =
    let s = some_bit 128 (bit_and p q) (omega (arith, and_le_l p q)) (omega (arith, h)) in
    let both = (and_has p q s.0).0 s.2 in
    (s.0, s.1, both.0, both.1)

pub no_place : (p q : ℕ) → bit_and p q ≡ 0 → ¬ Meets p q
no_place p q z m = none_of_zero m.0 (subst (λ n. Has n m.0) z ((and_has p q m.0).1 (m.2, m.3)))
