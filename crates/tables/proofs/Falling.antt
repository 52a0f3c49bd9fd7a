-- A proper part of a set has fewer numbers.
use Rattle.std.proofs.Common.{◌≡◌, ℕ, zero, suc, ◌+◌, ◌<◌, ◌≤◌, Bool, cond, eqb, length, refl, ap, ⊎_elim, add-one, arith}
use Rattle.std.specs.List.{range_with_len, count_by, filter}
use Rattle.std.proofs.lemmas.Bool.{cases_eq}
use Rattle.std.proofs.lemmas.List.Sums.{length-filter, sum_by-cons}
use Rattle.bitset.specs.Bits.{bit, Has}
use Rattle.tables.specs.Ranks.{count_below}

bit_below : (set x : ℕ) → bit set x < 2
unfolding bit
bit_below set x = omega arith

-- a number that the set lacks
pub bit_none : (set x : ℕ) → (¬ Has set x) → bit set x ≡ 0
bit_none set x none = omega (arith, bit_below set x, none)

pub count_more : (set n : ℕ) → count_below set (n + 1) ≡ count_below set n + bit set n
unfolding count_below
count_more set n = rw add-one

pub count_none : (set : ℕ) → count_below set 0 ≡ 0
unfolding count_below
count_none set = refl

pub count_small : (set n : ℕ) → count_below set n ≤ n
unfolding count_below
count_small set zero = omega arith
count_small set (suc n) = omega (arith, count_small set n, bit_below set n)

-- what a test that answers whether the set has a number counts
digit : (n : ℕ) → n < 2 → cond (eqb n 1) 1 0 ≡ n
digit zero l = refl
digit (suc zero) l = refl
digit (suc (suc n)) l = absurd (omega arith)

count_from :
    (set a n : ℕ) → count_by (λ x. eqb (bit set x) 1) (range_with_len a n) + count_below set a ≡ count_below set (a + n)
count_from set a zero = let same : a + 0 ≡ a = omega arith in omega (arith, ap (count_below set) same)
count_from set a (suc n) =
    let test : ℕ → Bool = λ x. eqb (bit set x) 1 in
    let first : count_by test (range_with_len a (suc n)) ≡ cond (test a) 1 0 + count_by test (range_with_len (a + 1) n) =
    sum_by-cons (λ x. cond (test x) 1 0) a (range_with_len (a + 1) n) in
    let same : a + 1 + n ≡ a + suc n = omega arith in
    omega (arith, first, count_from set (a + 1) n, count_more set a, digit (bit set a) (bit_below set a), ap (count_below set) same)

pub count_tested : (set n : ℕ) → length (filter (λ x. eqb (bit set x) 1) (range_with_len 0 n)) ≡ count_below set n
count_tested set n =
    let same : 0 + n ≡ n = omega arith in
    omega
    (arith, length-filter (λ x. eqb (bit set x) 1) (range_with_len 0 n), count_from set 0 n, count_none set, ap (count_below set) same)

module _ (part set : ℕ) (within : (x : ℕ) → Has part x → Has set x) where
  bit_part : (x : ℕ) → bit part x ≤ bit set x
  bit_part x =
      ⊎_elim (λ (h : Has part x). omega (arith, h, within x h)) (λ (h : Has part x → ⊥). omega (arith, bit_none part x h)) (cases_eq (bit part x) 1)

  count_part : (n : ℕ) → count_below part n ≤ count_below set n
  unfolding count_below
  count_part zero = omega arith
  count_part (suc n) = omega (arith, count_part n, bit_part n)

  pub count_less : (n x : ℕ) → x < n → Has set x → (¬ Has part x) → count_below part n < count_below set n
  unfolding count_below
  count_less zero x l h none = absurd (omega arith)
  count_less (suc n) x l h none =
      ⊎_elim
      (λ (e : x ≡ n). omega (arith, count_part n, ap (bit set) e, ap (bit part) e, bit_none part x none, h))
      (λ (e : x ≡ n → ⊥). omega (arith, count_less n x (omega (arith, l, e)) h none, bit_part n))
      (cases_eq x n)
