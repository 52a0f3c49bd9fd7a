-- Places that come into sets.
use Rattle.std.proofs.Common.{◌≡◌, ℕ, ◌+◌, ◌*◌, ◌/◌, ◌%◌, ◌^◌, ◌<◌, ◌≤◌, set, replicate, sym, refl, subst, inl, inr, ⊎_elim, arith, pow_mono}
use Rattle.std.proofs.lemmas.Bool.{cases_lt}
use Rattle.bitset.specs.Bits.{Has}
use Rattle.bitset.proofs.Digits.{none_past, none_of_zero}
use Rattle.bitset.proofs.Joining.{zeros}
use Rattle.derivations.specs.Steps.{Adds, Gathers}
use Rattle.tables.specs.Sets.{Marked}

-- no place is in a set of cells that are all 0
pub none_marked : (n x d : ℕ) → ¬ Marked (replicate n 0) x d
none_marked n x d h = none_of_zero (d % 64) (subst (λ c. Has c (d % 64)) (zeros n (2 * x + d / 64)) h.1)

-- a set of w bits has numbers below w
pub has_below : (w set x : ℕ) → set < 2 ^ w → Has set x → x < w
has_below w set x fits h =
    ⊎_elim (λ (l : x < w). l) (λ (l : w ≤ x). absurd (none_past set x (omega (arith, fits, pow_mono l)) h)) (cases_lt x w)

-- a place that came into the sets of the numbers below n came into the sets of all numbers
pub marks_all :
    (before after : ℕ → ℕ → Type 0) (n numbers d : ℕ) →
    ((x : ℕ) → Has numbers x → x < n) →
    Gathers before after n (λ x y e. (y ≡ x) × Has numbers x × (e ≡ d)) →
    Adds before after (λ x e. Has numbers x × (e ≡ d))
marks_all before after n numbers d low all x e = (
  λ h.
      ⊎_elim (λ (b : before x e). inl b)
      (λ (t : (k : ℕ) × (k < n) × ((x ≡ k) × Has numbers k × (e ≡ d))). inr (subst (Has numbers) (sym t.2.0) t.2.1, t.2.2))
      ((all x e).0 h),
  ⊎_elim (λ (b : before x e). (all x e).1 (inl b)) (λ (t : Has numbers x × (e ≡ d)). (all x e).1 (inr (x, low x t.0, (refl, t.0, t.1)))),
)
