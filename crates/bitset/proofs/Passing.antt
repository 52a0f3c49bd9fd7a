-- A set of the numbers of a range that pass a test, where what the test answers tells whether P holds.
use Rattle.std.proofs.Common.{ℕ, ◌<◌, ◌≤◌, ◌↔◌, ⊎_elim}
use Rattle.std.proofs.lemmas.Bool.{cases_eq}
use Rattle.bitset.specs.Bits.{bit, Has}

module _
    {Passed Failed : ℕ → Type 0}
    (P : ℕ → Type 0)
    (set start end : ℕ)
    (passed : (x : ℕ) → Has set x → (start ≤ x) × (x < end) × Passed x)
    (failed : (x : ℕ) → start ≤ x → x < end → (¬ Has set x) → Failed x)
    (yes : (x : ℕ) → start ≤ x → x < end → Passed x → P x)
    (no : (x : ℕ) → start ≤ x → x < end → Failed x → ¬ P x) where
  pub chosen_has : (x : ℕ) → Has set x ↔ ((start ≤ x) × (x < end) × P x)
  chosen_has x = (
    λ h. let t = passed x h in (t.0, t.1, yes x t.0 t.1 t.2),
    λ h. ⊎_elim (λ (y : Has set x). y) (λ (n : ¬ Has set x). absurd (no x h.0 h.1 (failed x h.0 h.1 n) h.2)) (cases_eq (bit set x) 1),
  )
