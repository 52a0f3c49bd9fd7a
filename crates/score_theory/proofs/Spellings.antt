-- Which words stand from one position to another.
use Rattle.std.proofs.Common.{◌≡◌, ℕ, suc, ◌+◌, ◌≤◌, List, [], ◌∷◌, ◌++◌, length, take, drop, sym, refl, ap, ◌∙◌, subst, append_assoc, append-nil, arith, length-append, take-append-drop, take_all}
use mathlib.Core.Logic.Dec
use native.Mathlib.Decide.{dec_le, ℕ_discrete, map_dec}
use Rattle.std.proofs.lemmas.List.{length-take-le, take_at}
use Rattle.grammar.specs.Grammar.{At}
use Rattle.theory.specs.Claims.{Spells}
use Rattle.theory.proofs.Lists.{at_split, take_at as take_one}

pub spells_none : (ws : List ℕ) (i : ℕ) → i ≤ length ws → Spells ws i i []
spells_none ws i h = (omega arith, h, sym (append-nil (take i ws)))

pub spells_join : (ws : List ℕ) (i m j : ℕ) (us vs : List ℕ) → Spells ws i m us → Spells ws m j vs → Spells ws i j (us ++ vs)
spells_join ws i m j us vs a b = (
  let n = length-append us vs in let x = a.0 in let y = b.0 in omega arith,
  b.1,
  b.2 ∙ ap (λ l. l ++ vs) a.2 ∙ append_assoc (take i ws) us vs,
)

-- the first i words and us are the words up to i + length us
front_taken : (ws : List ℕ) (i j : ℕ) (us vs : List ℕ) → Spells ws i j (us ++ vs) → take (i + length us) ws ≡ take i ws ++ us
front_taken ws i j us vs h =
    let n = length-append us vs in
    let x = h.0 in
    let y = h.1 in
    let li : length (take i ws) ≡ i = length-take-le i ws (omega arith) in
    let lf : length (take i ws ++ us) ≡ length (take i ws) + length us = length-append (take i ws) us in
    let split : ws ≡ (take i ws ++ us) ++ (vs ++ drop j ws) = sym (take-append-drop j ws) ∙ ap (λ l. l ++ drop j ws) h.2 ∙ simp append_assoc in
    ap (take (i + length us)) split ∙ take_at (take i ws ++ us) (vs ++ drop j ws) (i + length us) (omega arith)

pub spells_front : (ws : List ℕ) (i j : ℕ) (us vs : List ℕ) → Spells ws i j (us ++ vs) → Spells ws i (i + length us) us
spells_front ws i j us vs h = (refl, let n = length-append us vs in let x = h.0 in let y = h.1 in omega arith, front_taken ws i j us vs h)

pub spells_back : (ws : List ℕ) (i j : ℕ) (us vs : List ℕ) → Spells ws i j (us ++ vs) → Spells ws (i + length us) j vs
spells_back ws i j us vs h = (
  let n = length-append us vs in let x = h.0 in omega arith,
  h.1,
  h.2 ∙ sym (append_assoc (take i ws) us vs) ∙ ap (λ l. l ++ vs) (sym (front_taken ws i j us vs h)),
)

pub spells_word : (ws : List ℕ) (j a : ℕ) → At ws j a → Spells ws j (suc j) (a ∷ [])
spells_word ws j a at = (omega arith, at.0, take_one ws j a at)

pub word_spelt : (ws : List ℕ) (j a : ℕ) → Spells ws j (suc j) (a ∷ []) → At ws j a
word_spelt ws j a h =
    let y = h.1 in
    let lj : length (take j ws) ≡ j = length-take-le j ws (omega arith) in
    let split : ws ≡ take j ws ++ (a ∷ drop (suc j) ws) = sym (take-append-drop (suc j) ws) ∙ ap (λ l. l ++ drop (suc j) ws) h.2 ∙ simp append_assoc in
    subst (λ n. At ws n a) lj (at_split ws (take j ws) a (drop (suc j) ws) split)

-- from the first word to the last stand all the words
pub spells_all : (ws us : List ℕ) → us ≡ ws → Spells ws 0 (length ws) us
spells_all ws us e = (let l : length us ≡ length ws = ap length e in omega arith, omega arith, take_all (length ws) ws (omega arith) ∙ sym e)

pub all_spelt : (ws us : List ℕ) → Spells ws 0 (length ws) us → us ≡ ws
all_spelt ws us h = sym h.2 ∙ take_all (length ws) ws (omega arith)

same_list : (xs ys : List ℕ) → Dec (xs ≡ ys)
same_list [] [] = yes refl
same_list [] (y ∷ ys) = no (λ e. let n = ap length e in omega arith)
same_list (x ∷ xs) [] = no (λ e. let n = ap length e in omega arith)
same_list (x ∷ xs) (y ∷ ys) =
    map_dec
    (λ h. ap (λ z. z ∷ xs) h.0 ∙ ap (λ l. y ∷ l) h.1)
    (λ e. (let p : x ≡ y = cc in p, let p : xs ≡ ys = cc in p))
    (Dec.and (ℕ_discrete x y) (same_list xs ys))

pub spells? : (ws : List ℕ) (i j : ℕ) (us : List ℕ) → Dec (Spells ws i j us)
spells? ws i j us =
    map_dec
    (λ h. (h.0, h.1.0, h.1.1))
    (λ h. (h.0, (h.1, h.2)))
    (Dec.and (ℕ_discrete j (i + length us)) (Dec.and (dec_le j (length ws)) (same_list (take j ws) (take i ws ++ us))))
