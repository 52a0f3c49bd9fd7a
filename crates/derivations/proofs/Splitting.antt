-- The symbols of a right side before and behind a position.
use Rattle.std.proofs.Common.{◌≡◌, ℕ, ◌+◌, ◌-◌, ◌<◌, ◌≤◌, List, get_or, take, drop, ap, ◌∙◌, ⊎_elim, arith, length-drop, length-take}
use Rattle.std.proofs.lemmas.List.{get_or-take, get_or-drop}
use Rattle.std.proofs.lemmas.Bool.{cases_lt}
use Rattle.derivations.specs.Steps.{EveryIn, OthersIn}

pub around : (set : ℕ) (xs : List ℕ) (k : ℕ) → EveryIn set (take k xs) → EveryIn set (drop (k + 1) xs) → OthersIn set xs k
around set xs k front back i x at not =
    ⊎_elim
    (λ (l : i < k). front i x (omega (arith, at.0, length-take k xs), get_or-take k xs i 0 l ∙ at.1))
    (λ (l : k ≤ i).
    let from : k + 1 + (i - (k + 1)) ≡ i = omega (arith, not) in
    back (i - (k + 1)) x (omega (arith, at.0, not, length-drop (k + 1) xs), get_or-drop (k + 1) xs (i - (k + 1)) 0 ∙ ap (λ n. get_or xs n 0) from ∙ at.1))
    (cases_lt i k)
