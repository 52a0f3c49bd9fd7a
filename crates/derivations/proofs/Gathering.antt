-- Relations that take in more with each step of a loop.
use Rattle.std.proofs.Common.{◌≡◌, ℕ, ◌+◌, ◌<◌, ◌⊎◌, ◌↔◌, subst, inl, inr, ⊎_elim, arith}
use Rattle.std.proofs.lemmas.Bool.{cases_eq}
use Rattle.derivations.specs.Steps.{Adds, Gathers}

pub gathers_more :
    (before mid after : ℕ → ℕ → Type 0) (i : ℕ) (new : ℕ → ℕ → ℕ → Type 0) →
    Gathers before mid i new →
    Adds mid after (new i) →
    Gathers before after (i + 1) new
gathers_more before mid after i new old step x y =
    let wider : before x y ⊎ ((k : ℕ) × (k < i) × new k x y) → before x y ⊎ ((k : ℕ) × (k < i + 1) × new k x y) =
    ⊎_elim (λ (b : before x y). inl b) (λ (t : (k : ℕ) × (k < i) × new k x y). inr (t.0, omega (arith, t.1), t.2)) in
    let narrower : (t : (k : ℕ) × (k < i + 1) × new k x y) → mid x y ⊎ new i x y = λ t.
    ⊎_elim (λ (e : t.0 ≡ i). inr (subst (λ k. new k x y) e t.2))
    (λ (n : t.0 ≡ i → ⊥). inl ((old x y).1 (inr (t.0, omega (arith, t.1, n), t.2))))
    (cases_eq t.0 i) in (
      λ h. ⊎_elim (λ (m : mid x y). wider ((old x y).0 m)) (λ (n : new i x y). inr (i, omega arith, n)) ((step x y).0 h),
      λ o. (step x y).1 (⊎_elim (λ (b : before x y). inl ((old x y).1 (inl b))) narrower o),
    )

-- a relation that begins with nothing
pub gathers_all :
    (before after : ℕ → ℕ → Type 0) (n : ℕ) (new : ℕ → ℕ → ℕ → Type 0) →
    ((x y : ℕ) → ¬ before x y) →
    Gathers before after n new →
    (x y : ℕ) →
    after x y ↔ ((k : ℕ) × (k < n) × new k x y)
gathers_all before after n new none all x y =
    (λ h. ⊎_elim (λ (b : before x y). absurd (none x y b)) (λ (t : (k : ℕ) × (k < n) × new k x y). t) ((all x y).0 h), λ t. (all x y).1 (inr t))
