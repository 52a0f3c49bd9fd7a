-- Grammars with the same content have the same scores. Assumes nothing.
use mathlib.Core.Path.{◌≡◌, refl, sym, ◌∙◌, ap, subst}
use mathlib.Core.List.Memᴰ
use mathlib.Core.List.{List, [], ◌∷◌, map, Memᴰ}
use Prim.Native.Nat.{ℕ}
use Rattle.grammar.specs.Grammar.{Grammar, Known}
use Rattle.grammar.specs.Sound.{Apart}
use Rattle.grammar.specs.Trees.{Tree, words, Whole}
use Rattle.theory.specs.Claims.{Parse}
use Rattle.scales.specs.Scales.{Scale}
use Rattle.score_theory.specs.Totals.{total, Distinct, distinct_none, distinct_more, Enumerates}
use Rattle.score_theory.specs.Scores.{Score, price_of, product}
use Rattle.sameness.specs.Sames.{Alike, PricesIn, Same}
use Rattle.sameness.specs.Claims.{SameScores}
use Rattle.sameness.proofs.Renaming.{alike_trans, one_production, pick, renamed, same_words, whole_renamed, product_renamed, again}
use Rattle.sameness.proofs.Equivalence.{turned}

-- lists of renamed members
distinct_map : {A B : Type 0} (f : A → B) (g : B → A) {xs : List A} → ((x : A) → Memᴰ x xs → g (f x) ≡ x) → Distinct xs → Distinct (map f xs)
distinct_map f g inv distinct_none = distinct_none
distinct_map f g inv (distinct_more {x = x} {xs = xs} new d) =
    distinct_more
    (λ h. let r = Memᴰ.of_map f xs h in new (Memᴰ.cast (sym (inv x (Memᴰ.head refl)) ∙ ap g (sym r.2) ∙ inv r.0 (Memᴰ.tail r.1)) r.1))
    (distinct_map f g (λ y m. inv y (Memᴰ.tail m)) d)

total_map : {A B M : Type 0} (none : M) (plus : M → M → M) (f : A → B) (u : A → M) (v : B → M) (xs : List A) → ((x : A) → Memᴰ x xs → v (f x) ≡ u x) → total none plus v (map f xs) ≡ total none plus u xs
total_map none plus f u v [] e = refl
total_map none plus f u v (x ∷ xs) e =
    ap (λ n. plus n (total none plus v (map f xs))) (e x (Memᴰ.head refl)) ∙ ap (plus (u x)) (total_map none plus f u v xs (λ y m. e y (Memᴰ.tail m)))

-- the renaming between grammars with the same content
abbrev Moves : Grammar → Grammar → Type 0
Moves g h = (ρ : ℕ → ℕ) × ((p : ℕ) → Known g p → Alike g p h (ρ p) × (price_of g p ≡ price_of h (ρ p)))

moves : {g h : Grammar} → PricesIn g h → Moves g h
moves {g} {h} m = pick {P = λ p q. Alike g p h q × (price_of g p ≡ price_of h q)} (λ p l. let r = m p l in (r.0, (r.1, r.2)))

comes_back : {g h : Grammar} → Apart g.productions → (ρ : Moves g h) (σ : Moves h g) (p : ℕ) → Known g p → σ.0 (ρ.0 p) ≡ p
comes_back apart ρ σ p k =
    let there = (ρ.1 p k).0 in
    let home = (σ.1 (ρ.0 p) there.there).0 in
    sym (one_production apart (alike_trans there home))

pub score_moves : {S : Type 0} (s : Scale S) {g h : Grammar} → Apart g.productions → Apart h.productions → Same g h → (ws : List ℕ) (v : S) → Score s g ws v → Score s h ws v
score_moves s {g} {h} apart_g apart_h same ws v score = record {
  trees = map there ts;
  all = record {
    once = distinct_map there home (λ t m. again ρ.0 σ.0 (comes_back apart_g ρ σ) ((all.each t).0 m).0) all.once;
    each = λ t. (into t, from t);
  };
  is = score.is ∙ sym (total_map s.none s.plus there (product s g) (product s h) ts (λ t m. product_renamed s h ρ.0 (λ p k. (ρ.1 p k).1) ((all.each t).0 m).0));
}
  where
    ρ : Moves g h
    ρ = moves same.prices

    σ : Moves h g
    σ = moves same.prices_back

    there : Tree → Tree
    there = renamed ρ.0

    home : Tree → Tree
    home = renamed σ.0

    ts : List Tree
    ts = score.trees

    all : Enumerates (Parse g ws) ts
    all = score.all

    into : (t : Tree) → Memᴰ t (map there ts) → Parse h ws t
    into t m =
        let r = Memᴰ.of_map there ts m in
        let w = (all.each r.0).0 r.1 in
        subst
        (λ x. Whole h x × (words x ≡ ws))
        r.2
        (whole_renamed apart_g same.rules_back ρ.0 (λ p k. (ρ.1 p k).0) same.starts w.0, same_words ρ.0 r.0 ∙ w.1)

    from : (t : Tree) → Parse h ws t → Memᴰ t (map there ts)
    from t w =
        let m : Parse g ws (home t) = (whole_renamed apart_h same.rules σ.0 (λ p k. (σ.1 p k).0) (sym same.starts) w.0, same_words σ.0 t ∙ w.1) in
        Memᴰ.cast (sym (again σ.0 ρ.0 (comes_back apart_h σ ρ) w.0)) (Memᴰ.map there ((all.each (home t)).1 m))

pub same_scores : {S : Type 0} (s : Scale S) → SameScores s
same_scores s g h fg fh same ws v = (score_moves s fg.apart fh.apart same ws v, score_moves s fh.apart fg.apart (turned g h same) ws v)
