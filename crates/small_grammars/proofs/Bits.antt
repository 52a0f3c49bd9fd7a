-- Numbers with the same bits are equal.
use Rattle.std.proofs.Common.{◌≡◌, ℕ, zero, suc, ◌/◌, ◌%◌, ◌^◌, ◌<◌, ◌↔◌, sym, ap, ◌∙◌, pow-suc, div-one, arith}
use native.Mathlib.Decide.{ℕ_discrete}
use native.Mathlib.Nat.{pow-succ', div-div-eq-div-mul}
use Rattle.bitset.specs.Bits.{bit, Has}

bit_zero : (x : ℕ) → bit x 0 ≡ x % 2
unfolding bit
bit_zero x = ap (λ n. n % 2) (div-one x)

bit_half : (x b : ℕ) → bit (x / 2) b ≡ bit x (suc b)
unfolding bit
bit_half x b = ap (λ n. n % 2) (div-div-eq-div-mul x 2 (2 ^ b) ∙ ap (λ n. x / n) (sym (pow-succ' 2 b)))

same_low : (x y : ℕ) → Has x 0 ↔ Has y 0 → x % 2 ≡ y % 2
same_low x y h = elim (ℕ_discrete (x % 2) 1) [
  | yes e ↦ let r = h.0 (bit_zero x ∙ e) in omega (arith, bit_zero y)
  | no n ↦ elim (ℕ_discrete (y % 2) 1) [ yes e ↦ let r = h.1 (bit_zero y ∙ e) in absurd (n (sym (bit_zero x) ∙ r)) | no m ↦ omega arith ]
]

same : (n x y : ℕ) → x < 2 ^ n → y < 2 ^ n → ((b : ℕ) → b < n → Has x b ↔ Has y b) → x ≡ y
same zero x y l m h = omega arith
same (suc n) x y l m h =
    let low = same_low x y (h 0 (omega arith)) in
    let p = pow-suc 2 n in
    let high : x / 2 ≡ y / 2 =
    same n (x / 2) (y / 2) (omega arith) (omega arith) (λ b s. let r = h (suc b) (omega arith) in (λ k. bit_half y b ∙ r.0 (sym (bit_half x b) ∙ k), λ k. bit_half x b ∙ r.1 (sym (bit_half y b) ∙ k))) in
    omega arith

pub same_bits : (x y : ℕ) → x < 2 ^ 32 → y < 2 ^ 32 → ((b : ℕ) → b < 32 → Has x b ↔ Has y b) → x ≡ y
same_bits = same 32
