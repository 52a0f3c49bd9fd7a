-- A live production has a conflict-free tree, its first children can be extended to all of them, and a production with a tree is live.
use Rattle.std.proofs.Common.{◌≡◌, ℕ, zero, suc, ◌+◌, ◌-◌, ◌<◌, ◌≤◌, List, [], ◌∷◌, ◌++◌, get_or, sym, refl, ap, ◌∙◌, subst, append_assoc, append-nil, arith}
use native.Mathlib.Decide.{dec_lt}
use Rattle.grammar.specs.Grammar.{Grammar, Nonterminal, Kind, At, Known, left_of, right_of, size_of}
use Rattle.grammar.specs.Order.{Conflict}
use Rattle.grammar.specs.Trees.{Tree, node, Forest, bare, with_leaf, with_tree, words_of, Covers, covers_none, covers_leaf, covers_tree, Free, free_node}
use Rattle.grammar.specs.Items.{Live, live, Fills, fills_kind, fills_live}
use Rattle.theory.specs.Claims.{LiveRoots}

-- a conflict-free way through the first k symbols of p whose words begin with those of f
abbrev pub Extension : Grammar → ℕ → ℕ → Forest → Type 0
Extension g p k f = (h : Forest) × (more : List ℕ) × Covers g p k h × (words_of h ≡ words_of f ++ more)

-- position k of p has a child
abbrev Step : Grammar → ℕ → ℕ → Type 0
Step g p k = (f : Forest) → Covers g p k f → Extension g p (suc k) f

-- every position has one
abbrev Steps : Grammar → ℕ → Type 0
Steps g p = (k s : ℕ) → At (right_of g p) k s → Step g p k

step_kind : (g : Grammar) (p k s : ℕ) → At (right_of g p) k s → Kind s → Step g p k
step_kind g p k s at kind f c = (with_leaf f s, s ∷ [], covers_leaf c at kind, refl)

step_tree :
    (g : Grammar) (p k s q : ℕ) →
    At (right_of g p) k s →
    Nonterminal s →
    left_of g q ≡ s →
    (¬ Conflict g p k q) →
    Known g q →
    (h : Forest) × Covers g q (size_of g q) h →
    Step g p k
step_tree g p k s q at low is ok known t f c =
    (with_tree f (node q t.0), words_of t.0, covers_tree c (at.0, at.1 ∙ sym is) (omega arith) ok known t.1, refl)

extend : (g : Grammar) (p : ℕ) → Steps g p → (n k : ℕ) → n + k ≡ size_of g p → (f : Forest) → Covers g p k f → Extension g p (size_of g p) f
extend g p steps zero k e f c = (f, [], subst (λ m. Covers g p m f) (omega arith) c, sym (append-nil (words_of f)))
extend g p steps (suc n) k e f c =
    let one = steps k (get_or (right_of g p) k 0) (omega arith, refl) f c in
    let all = extend g p steps n (suc k) (omega arith) one.0 one.2 in
    (all.0, one.1 ++ all.1, all.2, rw (all.3, one.3) (append_assoc (words_of f) one.1 all.1))

tree_from : (g : Grammar) (p : ℕ) → Steps g p → (f : Forest) × Covers g p (size_of g p) f
tree_from g p steps = let all = extend g p steps (size_of g p) 0 (omega arith) bare covers_none in (all.0, all.2)

-- a live production is one of the grammar
pub live_known : {g : Grammar} {p : ℕ} → Live g p → Known g p
live_known (live known fills) = known

live_fills : {g : Grammar} {p : ℕ} → Live g p → (k s : ℕ) → At (right_of g p) k s → Fills g p k s
live_fills (live known fills) = fills

mutual
  -- a live production has a conflict-free tree
  pub live_covers : (g : Grammar) (p : ℕ) → Live g p → (f : Forest) × Covers g p (size_of g p) f
  live_covers g p (live known fills) = tree_from g p (λ k s at. fills_step g p k s at (fills k s at))

  fills_step : (g : Grammar) (p k s : ℕ) → At (right_of g p) k s → Fills g p k s → Step g p k
  fills_step g p k s at (fills_kind kind) = step_kind g p k s at kind
  fills_step g p k s at (fills_live {q = q} low is ok alive) = step_tree g p k s q at low is ok (live_known alive) (live_covers g q alive)

-- the first children of a live production can be extended to all of them
pub live_extends : (g : Grammar) (p k : ℕ) → Live g p → k ≤ size_of g p → (f : Forest) → Covers g p k f → Extension g p (size_of g p) f
live_extends g p k alive h f c = extend g p (λ k s at. fills_step g p k s at (live_fills alive k s at)) (size_of g p - k) k (omega arith) f c

same_symbol : (xs : List ℕ) (i k s a : ℕ) → i ≡ k → At xs i s → At xs k a → a ≡ s
same_symbol xs i k s a e at here = sym here.1 ∙ ap (λ n. get_or xs n 0) (sym e) ∙ at.1

-- every position that has a child can be filled
pub covers_fills : {g : Grammar} {p k : ℕ} {f : Forest} → Covers g p k f → (i s : ℕ) → i < k → At (right_of g p) i s → Fills g p i s
covers_fills covers_none i s h at = absurd (omega arith)
covers_fills {g} {p} (covers_leaf {k = k} {a = a} c here kind) i s h at =
    elim (dec_lt i k) [
      | yes l ↦ covers_fills c i s l at
      | no l ↦ let e : i ≡ k = omega arith in fills_kind (subst Kind (same_symbol (right_of g p) i k s a e at here) kind)
    ]
covers_fills {g} {p} (covers_tree {k = k} {q = q} c here low ok known below) i s h at =
    elim (dec_lt i k) [
      | yes l ↦ covers_fills c i s l at
      | no l ↦
          let e : i ≡ k = omega arith in
          let is = same_symbol (right_of g p) i k s (left_of g q) e at here in
          fills_live (subst Nonterminal is low) is (subst (λ n. ¬ Conflict g p n q) (sym e) ok) (live known (λ j x seen. covers_fills below j x seen.0 seen))
    ]

-- a production with a conflict-free tree is live
pub covers_live : {g : Grammar} {p : ℕ} {f : Forest} → Known g p → Covers g p (size_of g p) f → Live g p
covers_live known c = live known (λ k s at. covers_fills c k s at.0 at)

free_live : {g : Grammar} {p : ℕ} {t : Tree} → Free g p t → Live g p
free_live (free_node known c) = covers_live known c

pub live_roots : LiveRoots
live_roots g p = (λ alive. let r = live_covers g p alive in (node p r.0, free_node (live_known alive) r.1), λ r. free_live r.1)
