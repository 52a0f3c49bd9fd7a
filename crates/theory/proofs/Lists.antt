-- Facts on lists of words.
use Rattle.std.proofs.Common.{◌≡◌, ℕ, suc, ◌+◌, ◌⊎◌, List, [], ◌∷◌, ◌++◌, length, get_or, take, sym, refl, ap, ◌∙◌, inl, inr, add-one, arith, length-append}
use Rattle.std.proofs.lemmas.List.{take_more, get_or_at}
use Rattle.grammar.specs.Grammar.{At}

-- one word more
pub take_at : (ws : List ℕ) (i a : ℕ) → At ws i a → take (suc i) ws ≡ take i ws ++ (a ∷ [])
take_at ws i a h = ap (λ n. take n ws) (sym (add-one i)) ∙ take_more ws i 0 h.0 ∙ ap (λ x. take i ws ++ (x ∷ [])) h.1

-- the word behind the words us
pub at_split : (ws us : List ℕ) (a : ℕ) (vs : List ℕ) → ws ≡ us ++ (a ∷ vs) → At ws (length us) a
at_split ws us a vs e = (
  let l : length ws ≡ length us + suc (length vs) = ap length e ∙ length-append us (a ∷ vs) in omega arith,
  ap (λ xs. get_or xs (length us) 0) e ∙ get_or_at us a vs 0 (length us) refl,
)

-- where x ++ y is u, then a, then r, the word a stands either in x or in y
pub append_split :
    (x y u : List ℕ) (a : ℕ) (r : List ℕ) →
    x ++ y ≡ u ++ (a ∷ r) →
    ((m : List ℕ) × (x ≡ u ++ (a ∷ m))) ⊎ ((m : List ℕ) × (u ≡ x ++ m) × (y ≡ m ++ (a ∷ r)))
append_split [] y u a r e = inr (u, refl, e)
append_split (c ∷ x) y [] a r e = inl (x, cc)
append_split (c ∷ x) y (d ∷ u) a r e =
    let same : c ≡ d = cc in
    let below : x ++ y ≡ u ++ (a ∷ r) = cc in
    elim (append_split x y u a r below) [ inl h ↦ inl (h.0, cc) | inr h ↦ inr (h.0, cc, h.2) ]

-- the only word of a list of one
pub one_split : (x : ℕ) (m : List ℕ) (a : ℕ) (r : List ℕ) → x ∷ [] ≡ m ++ (a ∷ r) → (m ≡ []) × (x ≡ a)
one_split x [] a r e = (refl, cc)
one_split x (c ∷ m) a r e = let l : ◌≡◌ {A = ℕ} 1 (suc (length m + suc (length r))) = ap length e ∙ ap suc (length-append m (a ∷ r)) in absurd (omega arith)
