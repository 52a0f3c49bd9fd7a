-- Rows and the bits that they have.
use Rattle.std.proofs.Common.{◌≡◌, ℕ, zero, suc, ◌^◌, ◌<◌, ◌≤◌, ◌⊎◌, ◌↔◌, List, length, get_or, replicate, refl, subst, inl, ⊎_elim, arith, pow_mono}
use Rattle.std.proofs.lemmas.List.{get_or_past}
use Rattle.std.proofs.lemmas.Bool.{cases_lt}
use Rattle.bitset.specs.Bits.{Has, In}
use Rattle.bitset.proofs.Digits.{none_of_zero, none_past}

pub zeros : (n k : ℕ) → ◌≡◌ {A = ℕ} (get_or (replicate n 0) k 0) 0
zeros zero k = refl
zeros (suc n) zero = refl
zeros (suc n) (suc k) = zeros n k

-- there is no row past the last
pub no_row : (rows : List ℕ) (p q : ℕ) → length rows ≤ p → ¬ In rows p q
no_row rows p q past h = none_of_zero q (subst (λ n. Has n q) (get_or_past rows p 0 past) h)

-- rows of n bits have numbers below n
pub in_below : (n : ℕ) (rows : List ℕ) → ((k : ℕ) → get_or rows k 0 < 2 ^ n) → (p q : ℕ) → In rows p q → q < n
in_below n rows narrow p q h =
    ⊎_elim (λ (l : q < n). l) (λ (l : n ≤ q). absurd (none_past (get_or rows p 0) q (omega (arith, narrow p, pow_mono l)) h)) (cases_lt q n)

-- the rows before i are joined with row m where they have m, and the others are as before
pub record Joined (m i : ℕ) (before after : List ℕ) : Type 0 where
  pub done : (p q : ℕ) → p < i → In after p q ↔ (In before p q ⊎ (In before p m × In before m q))
  pub rest : (p : ℕ) → i ≤ p → get_or after p 0 ≡ get_or before p 0

-- all rows are joined
pub joined_all :
    (m i : ℕ) (before after : List ℕ) →
    Joined m i before after →
    length before ≤ i →
    (p q : ℕ) →
    In after p q ↔ (In before p q ⊎ (In before p m × In before m q))
joined_all m i before after joined all p q =
    ⊎_elim (λ (l : p < i). joined.done p q l)
    (λ (l : i ≤ p).
    let none : (r : ℕ) → ¬ In before p r = λ r. no_row before p r (omega arith) in (
      λ h. inl (subst (λ n. Has n q) (joined.rest p l) h),
      ⊎_elim (λ (h : In before p q). absurd (none q h)) (λ (h : In before p m × In before m q). absurd (none m h.0)),
    ))
    (cases_lt p i)
