-- The words of a tree are kinds. Assumes nothing.
use Rattle.std.proofs.Common.{ℕ, List, sym, refl, subst, inl, inr}
use mathlib.Core.List.Memᴰ
use mathlib.Core.List.{Memᴰ}
use Rattle.grammar.specs.Grammar.{Grammar, Kind}
use Rattle.grammar.specs.Trees.{Tree, words, words_of, Forest, Covers, covers_none, covers_leaf, covers_tree, Free, free_node}
use Rattle.theory.specs.Claims.{Viable}

covers_kinds : {g : Grammar} {p k : ℕ} {f : Forest} → Covers g p k f → (x : ℕ) → Memᴰ x (words_of f) → Kind x
covers_kinds covers_none x m = absurd (Memᴰ.not-nil m)
covers_kinds (covers_leaf {f = f} c at kind) x m =
    elim (Memᴰ.append_cases (words_of f) m) [ inl h ↦ covers_kinds c x h | inr h ↦ subst Kind (sym (Memᴰ.eq_of_singleton h)) kind ]
covers_kinds (covers_tree {f = f} c at low ok known d) x m =
    elim (Memᴰ.append_cases (words_of f) m) [ inl h ↦ covers_kinds c x h | inr h ↦ covers_kinds d x h ]

free_kinds : {g : Grammar} {q : ℕ} {t : Tree} → Free g q t → (x : ℕ) → Memᴰ x (words t) → Kind x
free_kinds (free_node known c) = covers_kinds c

-- what may come next is a kind
pub viable_kind : {g : Grammar} (ws : List ℕ) (kind : ℕ) → Viable g ws kind → Kind kind
viable_kind ws kind v = free_kinds v.2.is_free kind (subst (Memᴰ kind) (sym v.3) (Memᴰ.append_right ws (Memᴰ.head refl)))
