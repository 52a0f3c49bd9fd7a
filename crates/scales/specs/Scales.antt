-- Scales: what prices and trees are weighed on, and the laws of a semiring. Assumes nothing.
use Rattle.std.specs.Prelude.{◌≡◌, ℕ}

-- two values, a sum and a product
pub record Scale (S : Type 0) : Type 0 where
  pub none : S
  pub one : S
  pub plus : S → S → S
  pub times : S → S → S
  -- what a price is on the scale
  pub value : ℕ → S

-- sums turn on no order, products on no brackets, and a product with a sum is the sum of the products
pub record SemiringLaws {S : Type 0} (s : Scale S) : Type 0 where
  pub plus_none : (x : S) → s.plus s.none x ≡ x
  pub plus_comm : (x y : S) → s.plus x y ≡ s.plus y x
  pub plus_assoc : (x y z : S) → s.plus (s.plus x y) z ≡ s.plus x (s.plus y z)
  pub times_assoc : (x y z : S) → s.times (s.times x y) z ≡ s.times x (s.times y z)
  pub one_times : (x : S) → s.times s.one x ≡ x
  pub times_one : (x : S) → s.times x s.one ≡ x
  pub times_plus : (x y z : S) → s.times x (s.plus y z) ≡ s.plus (s.times x y) (s.times x z)
  pub plus_times : (x y z : S) → s.times (s.plus x y) z ≡ s.plus (s.times x z) (s.times y z)
  pub none_times : (x : S) → s.times s.none x ≡ s.none
  pub times_none : (x : S) → s.times x s.none ≡ s.none
