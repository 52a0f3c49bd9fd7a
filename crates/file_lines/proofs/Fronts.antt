-- A text that begins with fixed bytes, as slice patterns test it. Assumes nothing.
use Rattle.std.proofs.Common.{◌≡◌, ℕ, suc, ◌-◌, ◌≤◌, List, [], ◌∷◌, ◌++◌, length, take, drop, sym, ap, ◌∙◌, arith, take_all}
use Rattle.std.proofs.lemmas.Slice.Eq.{HasBytesAt}

shifted : (x : ℕ) (s : List ℕ) (i : ℕ) (p : List ℕ) → HasBytesAt (x ∷ s) (suc i) p → HasBytesAt s i p
shifted x s i [] h = tt
shifted x s i (b ∷ p) h = (h.0, shifted x s (suc i) p h.1)

-- the text is the bytes and what follows them
pub begins : (s p : List ℕ) → length p ≤ length s → HasBytesAt s 0 p → s ≡ p ++ take (length s - length p) (drop (length p) s)
begins s [] l h = sym (take_all (length s - 0) s (omega arith))
begins [] (b ∷ p) l h = absurd (omega arith)
begins (x ∷ s) (b ∷ p) l h =
    let rest = begins s p (omega arith) (shifted x s 0 p h.1) in
    let n : length (x ∷ s) - length (b ∷ p) ≡ length s - length p = omega arith in
    ap (λ c. c ∷ s) h.0 ∙ ap (λ t. b ∷ t) (rest ∙ ap (λ m. p ++ take m (drop (length p) s)) (sym n))
