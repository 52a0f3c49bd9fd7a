-- Lists that have each member once, and totals over them. Assumes nothing.
use Rattle.std.specs.Prelude.{◌≡◌, ◌↔◌, List, [], ◌∷◌}
use mathlib.Core.List.{Memᴰ}

-- no member stands twice
pub data Distinct {A : Type 0} : List A → Type 0 where
  distinct_none : Distinct []
  distinct_more : {x : A} {xs : List A} → (¬ Memᴰ x xs) → Distinct xs → Distinct (x ∷ xs)

-- xs has each x with P x once, and nothing else
pub record Enumerates {A : Type 0} (P : A → Type 0) (xs : List A) : Type 0 where
  pub once : Distinct xs
  pub each : (x : A) → Memᴰ x xs ↔ P x

-- the sum of the values of all members
abbrev pub total : {A M : Type 0} → M → (M → M → M) → (A → M) → List A → M
total none plus f [] = none
total none plus f (x ∷ xs) = plus (f x) (total none plus f xs)

-- a sum that does not turn on the order
pub record Commutative {M : Type 0} (none : M) (plus : M → M → M) : Type 0 where
  pub neutral : (x : M) → plus none x ≡ x
  pub comm : (x y : M) → plus x y ≡ plus y x
  pub assoc : (x y z : M) → plus (plus x y) z ≡ plus x (plus y z)

-- two lists have the same members
abbrev pub SameMembers : {A : Type 0} → List A → List A → Type 0
SameMembers {A} xs ys = (x : A) → Memᴰ x xs ↔ Memᴰ x ys

-- two lists with the same members, each once, have one total: of every type of members and of values
abbrev pub OneTotal : Type 0 → Type 0 → Type 0
OneTotal A M =
    (none : M) (plus : M → M → M) →
    Commutative none plus →
    (f : A → M) (xs ys : List A) →
    Distinct xs →
    Distinct ys →
    SameMembers xs ys →
    total none plus f xs ≡ total none plus f ys
