-- Bits of `&`, and of the shifts that move a set of places one place up.
use Rattle.std.proofs.Common.{◌≡◌, ℕ, zero, suc, ◌+◌, ◌-◌, ◌*◌, ◌/◌, ◌%◌, ◌^◌, ◌<◌, ◌≤◌, min, ◌↔◌, sym, ap, ◌∙◌, ⊎_elim, add-one, arith}
use lib.Bits.{bit_and, and_step, and_shr}
use Rattle.std.proofs.lemmas.Nat.{shl-shr, shr-shr, field_of, pow-add, pow_pos, div_below, le-div, mod-pow-add}
use Rattle.std.proofs.lemmas.Bool.{cases_lt}
use Rattle.bitset.specs.Bits.{bit, Has}

bit_below : (c d : ℕ) → bit c d < 2
unfolding bit
bit_below c d = omega arith

-- `&`
and_low : (x y : ℕ) → bit_and x y % 2 ≡ min (x % 2) (y % 2)
and_low x y = omega (arith, and_step x y)

bit_of_and : (a b d : ℕ) → bit (bit_and a b) d ≡ min (bit a d) (bit b d)
unfolding bit
bit_of_and a b d = ap (λ n. n % 2) (and_shr a b d) ∙ and_low (a / 2 ^ d) (b / 2 ^ d)

pub and_has : (a b d : ℕ) → Has (bit_and a b) d ↔ (Has a d × Has b d)
and_has a b d = (
  λ h. let s = bit_of_and a b d in let x = bit_below a d in let y = bit_below b d in (omega arith, omega arith),
  λ h. omega (arith, bit_of_and a b d, h.0, h.1),
)

-- `<< 1` of 128 bits
pub none_at_zero : (c : ℕ) → ¬ Has (c * 2 ^ 1 % 2 ^ 128) 0
unfolding bit
none_at_zero c h = omega arith

pub mod_low_bit : (n j : ℕ) → n % 2 ^ (j + 1) % 2 ≡ n % 2
mod_low_bit n j = omega (arith, mod-pow-add n j 1)

pub bit_up : (c d : ℕ) → d + 1 < 128 → bit (c * 2 ^ 1 % 2 ^ 128) (d + 1) ≡ bit c d
unfolding bit
bit_up c d h =
    let j = 126 - d in
    let w : 128 ≡ (j + 1) + (d + 1) = omega arith in
    let one : d + 1 ≡ 1 + d = omega arith in
    ap (λ (k : ℕ). c * 2 ^ 1 % 2 ^ k / 2 ^ (d + 1) % 2) w
    ∙ ap (λ n. n % 2) (field_of (c * 2 ^ 1) (j + 1) (d + 1))
    ∙ mod_low_bit (c * 2 ^ 1 / 2 ^ (d + 1)) j
    ∙ ap (λ (k : ℕ). c * 2 ^ 1 / 2 ^ k % 2) one
    ∙ ap (λ n. n % 2) (sym (shr-shr (c * 2 ^ 1) 1 d))
    ∙ ap (λ n. n / 2 ^ d % 2) (shl-shr c 1)

-- a number that is not 0 has a bit
pub some_bit : (k n : ℕ) → n < 2 ^ k → 0 < n → (d : ℕ) × (d < k) × Has n d
unfolding bit
some_bit zero n h l = absurd (omega arith)
some_bit (suc k) n h l =
    ⊎_elim
    (λ (lo : n < 2 ^ k). let r = some_bit k n lo l in (r.0, omega arith, r.2))
    (λ (hi : 2 ^ k ≤ n).
    let w : 2 ^ suc k ≡ 2 ^ k + 2 ^ k = omega (arith, pow-add 2 k 1, ap (λ m. 2 ^ m) (add-one k)) in
    let q : n / 2 ^ k < 2 = div_below n (2 ^ k) 2 (pow_pos k) (omega arith) in
    let o : 1 ≤ n / 2 ^ k = le-div 1 n (2 ^ k) (pow_pos k) (omega arith) in
    (k, omega arith, omega arith))
    (cases_lt n (2 ^ k))
