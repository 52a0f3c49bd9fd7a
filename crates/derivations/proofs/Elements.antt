-- Elements of lists, by index.
use Rattle.std.proofs.Common.{◌≡◌, ℕ, zero, suc, ◌<◌, List, [], ◌∷◌, length, get_or, sym, ap, ◌∙◌, subst, arith}
use mathlib.Core.List.{Memᴰ}
use Rattle.std.proofs.lemmas.List.{get_or-map, length-map}
use Rattle.grammar.specs.declared.production.Production.{Production as Stored}
use Rattle.grammar.specs.Grammar.{Nonterminal, no_production, production_at}
use Rattle.grammar.specs.Model.{production, productions}
use Rattle.derivations.specs.Ranges.{Lefts}

-- the stored production that was read at i
pub is_at : (ps : List Stored) (i : ℕ) (p : Stored) → i < length ps → p ≡ get_or ps i p → production p ≡ production_at (productions ps) i
is_at ps i p l e = ap production e ∙ sym (get_or-map production ps i p no_production l)

pub left_is_nonterminal : (ps : List Stored) (i : ℕ) (p : Stored) → Lefts (productions ps) → i < length ps → p ≡ get_or ps i p → Nonterminal (production p).left
left_is_nonterminal ps i p lefts l e =
    subst (λ q. Nonterminal q.left) (sym (is_at ps i p l e)) (lefts i (omega (arith, length-map ps production)))

-- the members of a list are its elements at the indices
pub member_at : {X : Type 0} (x d : X) (xs : List X) (k : ℕ) → k < length xs → get_or xs k d ≡ x → Memᴰ x xs
member_at x d [] k l e = absurd (omega arith)
member_at x d (y ∷ xs) zero l e = Memᴰ.head (sym e)
member_at x d (y ∷ xs) (suc k) l e = Memᴰ.tail (member_at x d xs k (omega arith) e)

pub index_of : {X : Type 0} (x d : X) (xs : List X) → Memᴰ x xs → (k : ℕ) × (k < length xs) × (get_or xs k d ≡ x)
index_of x d [] m = elim m [ ]
index_of x d (y ∷ xs) (Memᴰ.head e) = (0, omega arith, sym e)
index_of x d (y ∷ xs) (Memᴰ.tail m) = let r = index_of x d xs m in (suc r.0, omega (arith, r.1), r.2)
