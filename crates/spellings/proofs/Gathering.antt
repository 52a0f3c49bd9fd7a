-- The symbols of a right side, one by one. Assumes nothing.
use Rattle.std.proofs.Common.{ℕ, zero, suc, ◌<◌, ◌≤◌, List, [], ◌∷◌, ◌++◌, length, get_or, Err, sym, refl, ap, subst, inl, inr, ⊎_elim, arith}
use Rattle.std.proofs.lemmas.List.{length_push}
use Rattle.syntax.specs.Syntax.{Spelling, Symbol, nonterminal, spelled, ValidSymbol, ValidSymbols}
use Rattle.spellings.specs.declared.right.RightFault.{RightFault}
use Rattle.spellings.specs.declared.right.RightFault.TheVariants.{Undeclared as Missing, Long}
use Rattle.spellings.specs.Reading.{Gathers}
use Rattle.file_model.specs.Spelled.{StandsFor, RightSide, Unknown, Undeclared}

-- one more symbol at the end of a right side
pub right_push : (ws : List Spelling) (ss : List Symbol) (xs : List ℕ) (s : Symbol) (x : ℕ) → RightSide ws ss xs → StandsFor ws s x → RightSide ws (ss ++ s ∷ []) (xs ++ x ∷ [])
right_push ws [] xs s x r h = (x, [], h, refl, ap (λ (l : List ℕ). l ++ x ∷ []) r)
right_push ws (t ∷ ss) xs s x r h = (r.0, r.1 ++ x ∷ [], r.2, right_push ws ss r.1 s x r.3 h, ap (λ (l : List ℕ). l ++ x ∷ []) r.4)

-- what is undeclared stays so
pub undeclared_more : (ws : List Spelling) (ss : List Symbol) (s : Symbol) → Undeclared ws ss → Undeclared ws (ss ++ s ∷ [])
undeclared_more ws [] s u = absurd u
undeclared_more ws (t ∷ ss) s u = ⊎_elim (λ h. inl h) (λ h. inr (undeclared_more ws ss s h)) u

pub undeclared_last : (ws : List Spelling) (ss : List Symbol) (s : Symbol) → Unknown ws s → Undeclared ws (ss ++ s ∷ [])
undeclared_last ws [] s u = inl u
undeclared_last ws (t ∷ ss) s u = inr (undeclared_last ws ss s u)

-- a fault of the symbols before stays one
pub fault_more :
    (ws : List Spelling) (ss : List Symbol) (s : Symbol) (x : ℕ) (fault : RightFault) →
    StandsFor ws s x →
    Gathers ws ss (Err fault) →
    Gathers ws (ss ++ s ∷ []) (Err fault)
fault_more ws ss s x Missing h u = undeclared_more ws ss s u
fault_more ws ss s x Long h l = (l.0 ++ x ∷ [], right_push ws ss l.0 s x l.1 h, omega (arith, length_push l.0 x))

-- a symbol that stands for a written one is in range
pub stands_in_range : (ws : List Spelling) → length ws ≤ 32 → (s : Symbol) (x : ℕ) → ValidSymbol s → StandsFor ws s x → x < 48
stands_in_range ws few (nonterminal t) x v h = omega (arith, h)
stands_in_range ws few (spelled w) x v h = let f = h.1.within in omega (arith, h.2)

pub right_in_range : (ws : List Spelling) → length ws ≤ 32 → (ss : List Symbol) (xs : List ℕ) → ValidSymbols ss → RightSide ws ss xs → (k : ℕ) → k < length xs → get_or xs k 0 < 48
right_in_range ws few [] xs v r k h = absurd (omega (arith, ap length r))
right_in_range ws few (s ∷ ss) xs v r k h =
    let low = stands_in_range ws few s r.0 v.0 r.2 in
    let more = right_in_range ws few ss r.1 v.1 r.3 in
    subst (λ (l : List ℕ). (i : ℕ) → i < length l → get_or l i 0 < 48) (sym r.4) (at_cons r.0 r.1 low more) k h
  where
    at_cons : (x : ℕ) (xs : List ℕ) → x < 48 → ((i : ℕ) → i < length xs → get_or xs i 0 < 48) → (i : ℕ) → i < length (x ∷ xs) → get_or (x ∷ xs) i 0 < 48
    at_cons x xs a b zero h = a
    at_cons x xs a b (suc i) h = b i (omega arith)
