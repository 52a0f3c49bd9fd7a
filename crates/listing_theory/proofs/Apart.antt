-- A listing determines its tree, and the order is total on listings of trees.
use Rattle.std.proofs.Common.{◌≡◌, ℕ, suc, ◌+◌, ◌⊎◌, List, [], ◌∷◌, ◌++◌, length, sym, refl, ap, ◌∙◌, subst, inl, inr, append_assoc, append-nil, arith}
use Rattle.listing_theory.specs.declared.record.Record.{Record}
use Rattle.grammar.specs.Grammar.{Grammar, Nonterminal, Kind, At, Known, left_of, right_of, size_of}
use Rattle.grammar.specs.Order.{Conflict}
use Rattle.grammar.specs.Trees.{Tree, node, Forest, bare, with_leaf, with_tree, words_of, Covers, covers_none, covers_leaf, covers_tree, Free, free_node}
use Rattle.listing_theory.specs.Listings.{entry, listing, listings}
use Rattle.listing_theory.specs.Claims.{ListingsApart}
use Rattle.listing_theory.proofs.Orders.{Compared, before_self, before_onward, before_both, compared_append, compared_cons}

-- ---- what covers k symbols

abbrev pub Leafed : Grammar → ℕ → ℕ → Forest → Type 0
Leafed g p k z = (f : Forest) × (a : ℕ) × Covers g p k f × At (right_of g p) k a × Kind a × (z ≡ with_leaf f a)

abbrev pub Treed : Grammar → ℕ → ℕ → Forest → Type 0
Treed g p k z =
    (q : ℕ) × (f : Forest) × (inner : Forest) × Covers g p k f × At (right_of g p) k (left_of g q) × Nonterminal (left_of g q) ×
    (¬ Conflict g p k q) × Known g q × Covers g q (size_of g q) inner × (z ≡ with_tree f (node q inner))

last_part : {g : Grammar} {p k : ℕ} {z : Forest} → Covers g p (suc k) z → Leafed g p k z ⊎ Treed g p k z
last_part (covers_leaf {a = a} {f = f} c at kind) = inl (f, a, c, at, kind, refl)
last_part (covers_tree {q = q} {f = f} {h = inner} c at low ok known cg) = inr (q, f, inner, c, at, low, ok, known, cg, refl)

none_bare : {g : Grammar} {p k : ℕ} {f : Forest} → Covers g p k f → k ≡ 0 → f ≡ bare
none_bare covers_none e = refl
none_bare (covers_leaf c at kind) e = absurd (omega arith)
none_bare (covers_tree c at low ok known inner) e = absurd (omega arith)

-- at a position with a kind stands a leaf, and at one with a nonterminal a tree
last_leaf :
    {g : Grammar} {p k a : ℕ} {z : Forest} →
    Covers g p (suc k) z →
    At (right_of g p) k a →
    Kind a →
    (f : Forest) × Covers g p k f × (z ≡ with_leaf f a)
last_leaf {a = a} c at kind =
    elim (last_part c) [
      | inl r ↦ let same : r.1 ≡ a = sym r.3.1 ∙ at.1 in (r.0, r.2, r.5 ∙ ap (with_leaf r.0) same)
      | inr r ↦ let same = sym r.4.1 ∙ at.1 in let low = r.5 in absurd (omega arith)
    ]

last_tree : {g : Grammar} {p k s : ℕ} {z : Forest} → Covers g p (suc k) z → At (right_of g p) k s → Nonterminal s → Treed g p k z
last_tree c at low =
    elim (last_part c) [
      | inl r ↦ let same = sym r.3.1 ∙ at.1 in let kind = r.4 in absurd (omega arith)
      | inr r ↦ r
    ]

-- ---- one listing, one tree

same_head : (q r i j e m : ℕ) (us vs : List Record) → entry q i e ∷ us ≡ entry r j m ∷ vs → (q ≡ r) × (i ≡ j) × (us ≡ vs)
same_head q r i j e m us vs h =
    let first : entry q i e ≡ entry r j m = cc in
    let n : q + 1 ≡ r + 1 = ap (λ x. x.production) first in
    (omega arith, ap (λ x. x.start) first, cc)

pub same_way :
    {g : Grammar} {p k : ℕ} {f : Forest} →
    Covers g p k f →
    (inner : Forest) →
    Covers g p k inner →
    (i : ℕ) (us vs : List Record) →
    listings i f ++ us ≡ listings i inner ++ vs →
    (f ≡ inner) × (us ≡ vs)
same_way covers_none inner d i us vs e =
    let none : inner ≡ bare = none_bare d refl in
    (sym none, e ∙ ap (λ y. listings i y ++ vs) none)
same_way (covers_leaf {a = a} {f = f} c at kind) inner d i us vs e =
    let r = last_leaf d at kind in
    let h = same_way c r.0 r.1 i us vs (e ∙ ap (λ y. listings i y ++ vs) r.2) in
    (ap (λ z. with_leaf z a) h.0 ∙ sym r.2, h.1)
same_way {g} (covers_tree {q = q} {f = f} {h = inner} c at low ok known cg) z d i us vs e =
    let r = last_tree d at low in
    let q' = r.0 in
    let f' = r.1 in
    let inner' = r.2 in
    let t = listing (i + length (words_of f)) (node q inner) in
    let t' = listing (i + length (words_of f')) (node q' inner') in
    let e₁ : listings i f ++ (t ++ us) ≡ listings i f' ++ (t' ++ vs) = sym (append_assoc (listings i f) t us) ∙ e ∙
    ap (λ y. listings i y ++ vs) r.9 ∙ append_assoc (listings i f') t' vs in
    let h = same_way c f' r.3 i (t ++ us) (t' ++ vs) e₁ in
    let n = same_head q q' _ _ _ _ _ _ h.1 in
    let cinner' : Covers g q (size_of g q) inner' = subst (λ m. Covers g m (size_of g m) inner') (sym n.0) r.8 in
    let e₂ : listings (i + length (words_of f)) inner ++ us ≡ listings (i + length (words_of f)) inner' ++ vs = n.2 ∙
    ap (λ m. listings m inner' ++ vs) (sym n.1) in
    let k = same_way cg inner' cinner' (i + length (words_of f)) us vs e₂ in
    (cc (h.0, n.0, k.0, r.9), k.1)

pub same_tree :
    {g : Grammar} {p q : ℕ} {t u : Tree} →
    Free g p t →
    Free g q u →
    (i j : ℕ) (us vs : List Record) →
    listing i t ++ us ≡ listing j u ++ vs →
    (t ≡ u) × (us ≡ vs)
same_tree {g} (free_node {q = q} {f = f} kf c) (free_node {q = r} {f = inner} kg d) i j us vs e =
    let n = same_head q r _ _ _ _ _ _ e in
    let d' : Covers g q (size_of g q) inner = subst (λ m. Covers g m (size_of g m) inner) (sym n.0) d in
    let h = same_way c inner d' i us vs (n.2 ∙ ap (λ m. listings m inner ++ vs) (sym n.1)) in
    (cc (h.0, n.0), h.1)

-- ---- the order is total

pub compare_ways :
    {g : Grammar} {p k : ℕ} {f : Forest} →
    Covers g p k f →
    (inner : Forest) →
    Covers g p k inner →
    (i : ℕ) →
    Compared (listings i f) (listings i inner)
compare_ways covers_none inner d i = let none : inner ≡ bare = none_bare d refl in inl (rw none)
compare_ways (covers_leaf {a = a} {f = f} c at kind) inner d i =
    let r = last_leaf d at kind in
    subst (λ z. Compared (listings i f) (listings i z)) (sym r.2) (compare_ways c r.0 r.1 i)
compare_ways {g} (covers_tree {q = q} {f = f} {h = inner} c at low ok known cg) z d i =
    let r = last_tree d at low in
    let q' = r.0 in
    let f' = r.1 in
    let inner' = r.2 in
    let s = i + length (words_of f) in
    let s' = i + length (words_of f') in
    let trees : Compared (listing s (node q inner)) (listing s' (node q' inner')) =
    compared_cons _ _ _ _ (λ e.
    let n = same_head q q' s s' (s + length (words_of inner)) (s' + length (words_of inner')) [] [] (ap (λ x. x ∷ []) e) in
    let cinner' : Covers g q (size_of g q) inner' = subst (λ m. Covers g m (size_of g m) inner') (sym n.0) r.8 in
    subst (λ m. Compared (listings s inner) (listings m inner')) n.1 (compare_ways cg inner' cinner' s)) in
    subst
    (λ y. Compared (listings i f ++ listing s (node q inner)) (listings i y))
    (sym r.9)
    (compared_append (listings i f) (listings i f') _ _ (compare_ways c f' r.3 i) trees)

pub compare_trees : {g : Grammar} {p q : ℕ} {t u : Tree} → Free g p t → Free g q u → (i j : ℕ) → Compared (listing i t) (listing j u)
compare_trees {g} (free_node {q = q} {f = f} kf c) (free_node {q = r} {f = inner} kg d) i j =
    compared_cons _ _ _ _ (λ e.
    let n = same_head q r i j (i + length (words_of f)) (j + length (words_of inner)) [] [] (ap (λ x. x ∷ []) e) in
    let d' : Covers g q (size_of g q) inner = subst (λ m. Covers g m (size_of g m) inner) (sym n.0) d in
    subst (λ m. Compared (listings i f) (listings m inner)) n.1 (compare_ways c inner d' i))

pub listings_apart : ListingsApart
listings_apart g = record {
  determines = λ p q i j t u ft fu e. (same_tree ft fu i j [] [] (append-nil (listing i t) ∙ e ∙ sym (append-nil (listing j u)))).0;
  no_front = λ p q i j t u xs ft fu e. (same_tree ft fu i j xs [] (e ∙ sym (append-nil (listing j u)))).1;
  total = λ p q i j t u ft fu. compare_trees ft fu i j;
  never_both = before_both;
  never_self = before_self;
  onward = before_onward;
}
