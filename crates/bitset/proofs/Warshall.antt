-- The transitive closure of a relation between numbers below n, by way of more and more numbers.
use Rattle.std.proofs.Common.{◌≡◌, ℕ, zero, suc, ◌+◌, ◌<◌, ◌⊎◌, ◌↔◌, subst, inl, inr, add-one, arith}
use mathlib.Core.Logic.{⊎_map}
use native.Mathlib.Decide.{dec_lt}
use Rattle.grammar.specs.Order.{Closure, closure_one, closure_more}

-- from p to q by way of numbers below m
abbrev pub Via : (ℕ → ℕ → Type 0) → ℕ → ℕ → ℕ → Type 0
Via R zero p q = R p q
Via R (suc m) p q = Via R m p q ⊎ (Via R m p m × Via R m m q)

closure_trans : {R : ℕ → ℕ → Type 0} {p q r : ℕ} → Closure R p q → Closure R q r → Closure R p r
closure_trans (closure_one h) g = closure_more h g
closure_trans (closure_more h f) g = closure_more h (closure_trans f g)

module _ (R : ℕ → ℕ → Type 0) where
  via_closure : (m p q : ℕ) → Via R m p q → Closure R p q
  via_closure zero p q h = closure_one h
  via_closure (suc m) p q (inl h) = via_closure m p q h
  via_closure (suc m) p q (inr h) = closure_trans (via_closure m p m h.0) (via_closure m m q h.1)

  -- to m and from m, no way needs m in between
  to_last : (m p : ℕ) → Via R (suc m) p m → Via R m p m
  to_last m p (inl h) = h
  to_last m p (inr h) = h.0

  from_last : (m q : ℕ) → Via R (suc m) m q → Via R m m q
  from_last m q (inl h) = h
  from_last m q (inr h) = h.1

  abbrev Joins : ℕ → Type 0
  Joins m = (p r q : ℕ) → r < m → Via R m p r → Via R m r q → Via R m p q

  join : (m : ℕ) → Joins m → (p r q : ℕ) → r < m → Via R (suc m) p r → Via R (suc m) r q → Via R (suc m) p q
  join m below p r q l (inl f) (inl g) = inl (below p r q l f g)
  join m below p r q l (inl f) (inr g) = inr (below p r m l f g.0, g.1)
  join m below p r q l (inr f) (inl g) = inr (f.0, below m r q l f.1 g)
  join m below p r q l (inr f) (inr g) = inr (f.0, g.1)

  via_joins : (m : ℕ) → Joins m
  via_joins zero p r q h f g = absurd (omega arith)
  via_joins (suc m) p r q h f g =
      elim (dec_lt r m) [
        | yes l ↦ join m (via_joins m) p r q l f g
        | no l ↦ let e : r ≡ m = omega arith in
            inr (to_last m p (subst (λ x. Via R (suc m) p x) e f), from_last m q (subst (λ x. Via R (suc m) x q) e g))
      ]

  via_one : (m p q : ℕ) → R p q → Via R m p q
  via_one zero p q h = h
  via_one (suc m) p q h = inl (via_one m p q h)

  closure_via : (n : ℕ) → ((p q : ℕ) → R p q → q < n) → (p q : ℕ) → Closure R p q → Via R n p q
  closure_via n low p q (closure_one h) = via_one n p q h
  closure_via n low p q (closure_more {y = y} h f) = via_joins n p y q (low p y h) (via_one n p y h) (closure_via n low y q f)

  pub via_is_closure : (n : ℕ) → ((p q : ℕ) → R p q → q < n) → (p q : ℕ) → Via R n p q ↔ Closure R p q
  via_is_closure n low p q = (via_closure n p q, closure_via n low p q)

-- one step of the closure: what S has by way of numbers below m, T has by way of numbers below m + 1
pub via_more :
    (R S T : ℕ → ℕ → Type 0) (m : ℕ) →
    ((p q : ℕ) → S p q ↔ Via R m p q) →
    ((p q : ℕ) → T p q ↔ (S p q ⊎ (S p m × S m q))) →
    (p q : ℕ) →
    T p q ↔ Via R (m + 1) p q
via_more R S T m old step p q =
    rw add-one (
      λ t. ⊎_map (old p q).0 (λ (h : S p m × S m q). ((old p m).0 h.0, (old m q).0 h.1)) ((step p q).0 t),
      λ v. (step p q).1 (⊎_map (old p q).1 (λ (h : Via R m p m × Via R m m q). ((old p m).1 h.0, (old m q).1 h.1)) v),
    )
