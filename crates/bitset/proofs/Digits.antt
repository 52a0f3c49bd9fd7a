-- Bits of `|`, of `1 << d` and of small numbers.
use Rattle.std.proofs.Common.{◌≡◌, ℕ, ◌*◌, ◌/◌, ◌%◌, ◌^◌, ◌<◌, ◌≤◌, ◌≢◌, max, ◌⊎◌, ◌↔◌, ap, ◌∙◌, inl, inr, ⊎_elim, arith}
use mathlib.Core.Logic.{⊎_map}
use native.Mathlib.Nat.{div-eq_of_lt}
use lib.Bits.{bit_and, bit_or, or_add_and, and_mask, and_le_r}
use Rattle.std.proofs.lemmas.Nat.{pow_pos}
use Rattle.std.proofs.lemmas.Nat.Bits.{bit_at_or, bit_at-pow_same, bit_at-pow_other, and_pow}
use Rattle.std.proofs.lemmas.Bool.{cases_eq}
use Rattle.bitset.specs.Bits.{bit, Has}

bit_below : (c d : ℕ) → bit c d < 2
unfolding bit
bit_below c d = omega arith

-- `& 1`
pub and_one : (n : ℕ) → bit_and n 1 ≡ n % 2
and_one n = and_mask n 1

-- a number has no bit past its highest
pub none_past : (c d : ℕ) → c < 2 ^ d → ¬ Has c d
unfolding bit
none_past c d h s = omega (arith, ap (λ n. n % 2) (div-eq_of_lt h))

pub none_of_zero : (d : ℕ) → ¬ Has 0 d
none_of_zero d = none_past 0 d (pow_pos d)

-- `|`
bit_of_or : (a b d : ℕ) → bit (bit_or a b) d ≡ max (bit a d) (bit b d)
unfolding bit
bit_of_or a b d = bit_at_or a b d

pub or_has : (a b d : ℕ) → Has (bit_or a b) d ↔ (Has a d ⊎ Has b d)
or_has a b d = (
  λ h.
      ⊎_elim (λ (y : Has a d). inl y) (λ n. inr (let z : bit a d ≡ 0 = omega (arith, n, bit_below a d) in omega (arith, bit_of_or a b d)))
      (cases_eq (bit a d) 1),
  ⊎_elim (λ (y : Has a d). omega (arith, bit_of_or a b d, bit_below b d)) (λ (y : Has b d). omega (arith, bit_of_or a b d, bit_below a d)),
)

pub or_grows : (a b : ℕ) → a ≤ bit_or a b
or_grows a b = omega (arith, or_add_and a b, and_le_r a b)

-- a number that has the bit d is the same with it
pub or_same : (a d : ℕ) → Has a d → bit_or a (2 ^ d) ≡ a
unfolding bit
or_same a d h = omega (arith, or_add_and a (2 ^ d), and_pow a d ∙ ap (λ n. n * 2 ^ d) h)

-- `1 << d`
one_has : (d e : ℕ) → Has (2 ^ d) e ↔ (e ≡ d)
unfolding bit
one_has d e = (
  λ h.
      ⊎_elim (λ (p : e ≡ d). p) (λ (n : e ≡ d → ⊥). let ne : e ≢ d = n in absurd (omega (arith, h, bit_at-pow_other d e ne)))
      (cases_eq e d),
  λ p. ap (λ n. 2 ^ d / 2 ^ n % 2) p ∙ bit_at-pow_same d,
)

pub or_one_has : (a d e : ℕ) → Has (bit_or a (2 ^ d)) e ↔ (Has a e ⊎ (e ≡ d))
or_one_has a d e = (
  λ h. ⊎_map (λ (y : Has a e). y) (one_has d e).0 ((or_has a (2 ^ d) e).0 h),
  λ o. (or_has a (2 ^ d) e).1 (⊎_map (λ (y : Has a e). y) (one_has d e).1 o),
)
