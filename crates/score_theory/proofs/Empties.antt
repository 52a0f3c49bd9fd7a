-- Where a way spans no words, its symbols derive the empty list.
use Rattle.std.proofs.Common.{◌≡◌, ℕ, ◌<◌, List, [], ◌∷◌, length, get_or, sym, refl, ap, ◌∙◌, arith, length-append}
use native.Mathlib.Decide.{dec_lt}
use Rattle.grammar.specs.Grammar.{Grammar, Nonterminal, At, Known, left_of, right_of, size_of}
use Rattle.grammar.specs.Derivations.{Nullable, nullable, Leads}
use Rattle.grammar.specs.Trees.{Forest, words_of, Covers, covers_none, covers_leaf, covers_tree}
use Rattle.score_theory.specs.Scores.{Way}

-- two symbols at one position are one
pub same_symbol : (xs : List ℕ) (m k x y : ℕ) → m ≡ k → At xs m x → At xs k y → y ≡ x
same_symbol xs m k x y e at here = sym here.1 ∙ ap (λ n. get_or xs n 0) (sym e) ∙ at.1

-- where the first k symbols have no words, each derives the empty list
pub nullable_covers :
    {g : Grammar} {p k : ℕ} {f : Forest} →
    Covers g p k f →
    length (words_of f) ≡ 0 →
    (x y : ℕ) →
    x < k →
    At (right_of g p) x y →
    Nullable g.productions y
nullable_covers covers_none e x y l at = absurd (omega arith)
nullable_covers (covers_leaf {a = a} {f = f} c here kind) e x y l at = let n = length-append (words_of f) (a ∷ []) in absurd (omega arith)
nullable_covers {g} {p} (covers_tree {k = k} {q = q} {f = f} {h = h} c here low ok known below) e x y l at =
    let n = length-append (words_of f) (words_of h) in
    elim (dec_lt x k) [
      | yes less ↦ nullable_covers c (omega arith) x y less at
      | no more ↦
          nullable
          known
          (same_symbol (right_of g p) x k y (left_of g q) (omega arith) at here)
          (λ m z there. nullable_covers below (omega arith) m z there.0 there)
    ]

-- each of the first k symbols of p derives the empty list
pub empty_before :
    (g : Grammar) (ws : List ℕ) (p k i : ℕ) (f : Forest) →
    Way g ws p k i i f →
    (x y : ℕ) →
    x < k →
    At (right_of g p) x y →
    Nullable g.productions y
empty_before g ws p k i f way x y l at = let e = way.1.0 in nullable_covers way.0 (omega arith) x y l at

-- the left side of a production whose symbols span no words does
pub empty_tree : (g : Grammar) (ws : List ℕ) (q i : ℕ) (f : Forest) → Known g q → Way g ws q (size_of g q) i i f → Nullable g.productions (left_of g q)
empty_tree g ws q i f known way = nullable known refl (λ k x at. empty_before g ws q (size_of g q) i f way k x at.0 at)

-- where all symbols of p but the one at k derive the empty list, its left side leads to that one
pub leads_at :
    (g : Grammar) (p k B : ℕ) →
    Known g p →
    At (right_of g p) k B →
    Nonterminal B →
    ((x y : ℕ) → x < k → At (right_of g p) x y → Nullable g.productions y) →
    ((x y : ℕ) → k < x → At (right_of g p) x y → Nullable g.productions y) →
    Leads g.productions (left_of g p) B
leads_at g p k B known at low before after = record {
  by = p;
  known = known;
  of = refl;
  place = k;
  has = at;
  below = low;
  others = λ x y there apart. elim (dec_lt x k) [ yes l ↦ before x y l there | no l ↦ after x y (omega arith) there ];
}
