-- The smallest way, chosen from the left.
use Rattle.std.proofs.Common.{◌≡◌, ℕ, suc, ◌+◌, ◌<◌, ◌≤◌, List, [], ◌∷◌, ◌++◌, length, sym, refl, ap, ◌∙◌, subst, inl, inr, arith, take_all}
use native.Mathlib.Decide.{dec_lt}
use Rattle.listing_theory.specs.declared.record.Record.{Record}
use Rattle.grammar.specs.Grammar.{Grammar, Nonterminal, Kind, At, Known, left_of, right_of, size_of}
use Rattle.grammar.specs.Trees.{Tree, node, Forest, words, words_of, Covers, Free, free_node, Whole}
use Rattle.listing_theory.specs.Listings.{entry, listing, listings, Less, Before, Smallest}
use Rattle.listing_theory.specs.Ways.{Between, SmallestAt, Rest, rest_end, rest_kind, rest_tree, Reach}
use Rattle.listing_theory.proofs.Firsts.{FitsAt, Steps, SmallestRest, FirstChild, FirstRoot}
use Rattle.listing_theory.proofs.Orders.{Compared, before_parts, compared_cons, compared_append}
use Rattle.listing_theory.proofs.Apart.{compare_trees, same_tree}
use Rattle.listing_theory.proofs.Bridge.{all_of_rest, rest_of_all}

-- ---- the next symbol of a way

pub rest_ends : {g : Grammar} {ws : List ℕ} {p k s j : ℕ} {xs : List Record} → Rest g ws p k s j xs → k ≡ size_of g p → (s ≡ j) × (xs ≡ [])
rest_ends (rest_end at_end same) e = (same, refl)
rest_ends (rest_kind at kind here rest) e = let l = at.0 in absurd (omega arith)
rest_ends (rest_tree at low ok known child rest is) e = let l = at.0 in absurd (omega arith)

pub rest_after_kind :
    {g : Grammar} {ws : List ℕ} {p k s j : ℕ} {xs : List Record} →
    Rest g ws p k s j xs →
    (a : ℕ) →
    At (right_of g p) k a →
    Kind a →
    At ws s a × Rest g ws p (suc k) (suc s) j xs
rest_after_kind (rest_end at_end same) a at kind = let l = at.0 in absurd (omega arith)
rest_after_kind {ws = ws} {s = s} (rest_kind {a = c} was kindly here rest) a at kind =
    let same : c ≡ a = sym was.1 ∙ at.1 in (subst (At ws s) same here, rest)
rest_after_kind (rest_tree was low ok known child rest is) a at kind = let same = sym was.1 ∙ at.1 in absurd (omega arith)

abbrev pub ChildFirst : Grammar → List ℕ → ℕ → ℕ → ℕ → ℕ → List Record → Type 0
ChildFirst g ws p k s j zs =
    (q : ℕ) × (e : ℕ) × (ys : List Record) × (xs : List Record) × FitsAt g p k q × Rest g ws q 0 s e ys × Rest g ws p (suc k) e j xs ×
    (zs ≡ entry q s e ∷ (ys ++ xs))

pub rest_after_tree :
    {g : Grammar} {ws : List ℕ} {p k s j : ℕ} {zs : List Record} →
    Rest g ws p k s j zs →
    (x : ℕ) →
    At (right_of g p) k x →
    Nonterminal x →
    ChildFirst g ws p k s j zs
rest_after_tree (rest_end at_end same) x at low = let l = at.0 in absurd (omega arith)
rest_after_tree (rest_kind was kind here rest) x at low = let same = sym was.1 ∙ at.1 in absurd (omega arith)
rest_after_tree (rest_tree {e = e} {q = q} {ys = ys} {xs = xs} was lowly ok known child rest is) x at low =
    (q, e, ys, xs, (known, was, lowly, ok), child, rest, is)

same_entry : (q r s e m : ℕ) → entry q s e ≡ entry r s m → (q ≡ r) × (e ≡ m)
same_entry q r s e m h = let n : q + 1 ≡ r + 1 = ap (λ x. x.production) h in (omega arith, ap (λ x. x.end) h)

-- ways for the same symbols from the same word on, wherever they end
pub compare_rests :
    {g : Grammar} {ws : List ℕ} {p k s j : ℕ} {xs : List Record} →
    Rest g ws p k s j xs →
    (m : ℕ) (ys : List Record) →
    Rest g ws p k s m ys →
    Compared xs ys
compare_rests (rest_end at_end same) m ys r = inl (sym (rest_ends r at_end).1)
compare_rests (rest_kind {a = a} at kind here rest) m ys r = compare_rests rest m ys (rest_after_kind r a at kind).1
compare_rests {g} {ws} {p} {k} {s} (rest_tree {e = e} {q = q} {ys = us} {xs = vs} at low ok known child rest is) m zs r =
    let c = rest_after_tree r (left_of g q) at low in
    let q' = c.0 in
    let e' = c.1 in
    let us' = c.2 in
    let vs' = c.3 in
    subst (λ l. Compared l zs) (sym is)
    (subst (Compared (entry q s e ∷ (us ++ vs))) (sym c.7) (compared_cons (entry q s e) (entry q' s e') (us ++ vs) (us' ++ vs') (λ d.
    let n = same_entry q q' s e e' d in
    let child' : Rest g ws q 0 s e' us' = subst (λ x. Rest g ws x 0 s e' us') (sym n.0) c.5 in
    let rest' : Rest g ws p (suc k) e m vs' = subst (λ x. Rest g ws p (suc k) x m vs') (sym n.1) c.6 in
    compared_append us us' vs vs' (compare_rests child e' us' child') (compare_rests rest m vs' rest'))))

-- ---- the steps

pub smallest_end : (g : Grammar) (ws : List ℕ) (p k s j : ℕ) → k ≡ size_of g p → s ≡ j → SmallestRest g ws p k s j []
smallest_end g ws p k s j e same = record { way = rest_end e same; least = λ ys r h. subst (λ l. Before l []) (rest_ends r e).1 h }

pub smallest_kind :
    (g : Grammar) (ws : List ℕ) (p k s j a : ℕ) (xs : List Record) →
    At (right_of g p) k a →
    Kind a →
    At ws s a →
    SmallestRest g ws p (suc k) (suc s) j xs →
    SmallestRest g ws p k s j xs
smallest_kind g ws p k s j a xs at kind here more =
    record { way = rest_kind at kind here more.way; least = λ ys r h. more.least ys (rest_after_kind r a at kind).1 h }

pub smallest_tree :
    (g : Grammar) (ws : List ℕ) (p k s j q e : ℕ) (ys xs : List Record) →
    FirstChild g ws p k s j q e →
    SmallestRest g ws q 0 s e ys →
    SmallestRest g ws p (suc k) e j xs →
    SmallestRest g ws p k s j (entry q s e ∷ (ys ++ xs))
smallest_tree g ws p k s j q e ys xs first child more = record {
  way = let fits = first.can.0 in rest_tree fits.1 fits.2 fits.3 fits.0 child.way more.way refl;
  least = λ zs r h. none zs r h;
}
  where
    same :
        (q' e' : ℕ) (ys' xs' : List Record) →
        q' ≡ q →
        e' ≡ e →
        Rest g ws q' 0 s e' ys' →
        Rest g ws p (suc k) e' j xs' →
        Before (ys' ++ xs') (ys ++ xs) →
        ⊥
    same q' e' ys' xs' a c child' more' h =
        let child'' : Rest g ws q 0 s e ys' = subst (λ m. Rest g ws q 0 s m ys') c (subst (λ m. Rest g ws m 0 s e' ys') a child') in
        elim (before_parts ys' ys xs' xs (compare_rests child'' e ys child.way) h) [
          | inl l ↦ child.least ys' child'' l
          | inr (d, l) ↦ more.least xs' (subst (λ m. Rest g ws p (suc k) m j xs') c more') l
        ]

    less : (q' e' : ℕ) → Steps g ws p k s j q' e' → ¬ Less (entry q' s e') (entry q s e)
    less q' e' can (inl l) = first.smaller q' e' (omega arith) can
    less q' e' can (inr (d, inl l)) = omega arith
    less q' e' can (inr (d, inr (f, l))) = let n : q' ≡ q = omega arith in first.sooner e' l (subst (λ m. Steps g ws p k s j m e') n can)

    at_head :
        (q' e' : ℕ) (ys' xs' : List Record) →
        FitsAt g p k q' →
        Rest g ws q' 0 s e' ys' →
        Rest g ws p (suc k) e' j xs' →
        ¬ Before (entry q' s e' ∷ (ys' ++ xs')) (entry q s e ∷ (ys ++ xs))
    at_head q' e' ys' xs' fits child' more' (inl l) = less q' e' (fits, (ys', child'), (xs', more')) l
    at_head q' e' ys' xs' fits child' more' (inr (d, l)) = let n = same_entry q' q s e' e d in same q' e' ys' xs' n.0 n.1 child' more' l

    none : (zs : List Record) → Rest g ws p k s j zs → ¬ Before zs (entry q s e ∷ (ys ++ xs))
    none zs r h =
        let fits = first.can.0 in
        let c = rest_after_tree r (left_of g q) fits.1 fits.2 in
        at_head c.0 c.1 c.2 c.3 c.4 c.5 c.6 (subst (λ l. Before l (entry q s e ∷ (ys ++ xs))) c.7 h)

-- ---- the tree

less_to : (p i m n : ℕ) → m ≡ n → ¬ Less (entry p i m) (entry p i n)
less_to p i m n e (inl l) = omega arith
less_to p i m n e (inr (d, inl l)) = omega arith
less_to p i m n e (inr (d, inr (f, l))) = omega arith

before_same : (p i m n : ℕ) (xs ys : List Record) → m ≡ n → Before (entry p i m ∷ xs) (entry p i n ∷ ys) → Before xs ys
before_same p i m n xs ys e (inl l) = absurd (less_to p i m n e l)
before_same p i m n xs ys e (inr (d, l)) = l

free_parts : {g : Grammar} {p : ℕ} {t : Tree} → Free g p t → (f : Forest) × Known g p × Covers g p (size_of g p) f × (t ≡ node p f)
free_parts (free_node {f = f} known c) = (f, known, c, refl)

pub smallest_of :
    (g : Grammar) (ws : List ℕ) (p i j : ℕ) (xs : List Record) →
    Known g p →
    i ≤ length ws →
    SmallestRest g ws p 0 i j xs →
    (t : Tree) × SmallestAt g ws p i j t × (listing i t ≡ entry p i j ∷ xs)
smallest_of g ws p i j xs known h r =
    let inner = all_of_rest r.way in
    let n : j ≡ i + length (words_of inner.0) = inner.2.0 in (
      node p inner.0,
      record {
        is_free = free_node known inner.1;
        spells = inner.2;
        least = λ u free spells l.
            let f = free_parts free in
            let spans : Between ws i j (words_of f.0) = subst (λ t. Between ws i j (words t)) f.3 spells in
            let d : i + length (words_of f.0) ≡ i + length (words_of inner.0) = sym spans.0 ∙ n in
            let l' = subst (λ t. Before (listing i t) (listing i (node p inner.0))) f.3 l in
            r.least (listings i f.0) (rest_of_all f.2 ws i j h spans)
            (subst (Before (listings i f.0)) inner.3 (before_same p i _ _ (listings i f.0) (listings i inner.0) d l'));
      },
      ap (λ m. entry p i m ∷ listings i inner.0) (sym n) ∙ ap (λ l. entry p i j ∷ l) inner.3,
    )

pub rest_of_smallest :
    (g : Grammar) (ws : List ℕ) (p i j : ℕ) (t : Tree) →
    i ≤ length ws →
    SmallestAt g ws p i j t →
    (xs : List Record) × SmallestRest g ws p 0 i j xs × (listing i t ≡ entry p i j ∷ xs)
rest_of_smallest g ws p i j t h r =
    let f = free_parts r.is_free in
    let spans : Between ws i j (words_of f.0) = subst (λ t. Between ws i j (words t)) f.3 r.spells in (
      listings i f.0,
      record {
        way = rest_of_all f.2 ws i j h spans;
        least = λ ys way l.
            let inner = all_of_rest way in
            let d : i + length (words_of inner.0) ≡ i + length (words_of f.0) = sym inner.2.0 ∙ spans.0 in
            let l' : Before (listings i inner.0) (listings i f.0) = subst (λ z. Before z (listings i f.0)) (sym inner.3) l in
            let e' : entry p i (i + length (words_of inner.0)) ≡ entry p i (i + length (words_of f.0)) = ap (entry p i) d in
            r.least (node p inner.0) (free_node f.1 inner.1) inner.2
            (subst (λ z. Before (listing i (node p inner.0)) (listing i z)) (sym f.3) (inr (e', l')));
      },
      ap (listing i) f.3 ∙ ap (λ m. entry p i m ∷ listings i f.0) (sym spans.0),
    )

-- ---- the smallest of all trees of the words

whole_parts :
    {g : Grammar} {t : Tree} →
    Whole g t →
    (p : ℕ) × (f : Forest) × Known g p × Covers g p (size_of g p) f × (t ≡ node p f) × (left_of g p ≡ g.start)
whole_parts w = let f = free_parts w.is_free in (w.top, f.0, f.1, f.2, f.3, w.starts)

pub span_all : (ws us : List ℕ) → us ≡ ws → Between ws 0 (length ws) us
span_all ws us e = (rw e (omega arith), take_all (length ws) ws (omega arith) ∙ sym e)

-- a tree of the words has a root
pub whole_root :
    (g : Grammar) (ws : List ℕ) (u : Tree) →
    Whole g u →
    words u ≡ ws →
    (p : ℕ) × Known g p × (left_of g p ≡ g.start) × Reach g ws p 0 0 (length ws)
whole_root g ws u w e =
    let inner = whole_parts w in (
      inner.0,
      inner.2,
      inner.5,
      (
        listings 0 inner.1,
        rest_of_all inner.3 ws 0 (length ws) (omega arith)
            (span_all ws (words_of inner.1) (sym (ap words inner.4) ∙ e)),
      ),
    )

pub smallest_whole : (g : Grammar) (ws : List ℕ) (p : ℕ) (t : Tree) → FirstRoot g ws p → SmallestAt g ws p 0 (length ws) t → Smallest g ws t
smallest_whole g ws p t first r =
    let f = free_parts r.is_free in
    let spelt : words_of f.0 ≡ ws = sym (subst (λ t. Between ws 0 (length ws) (words t)) f.3 r.spells).1 ∙ take_all (length ws)
    ws (omega arith) in
    record {
      parse = (record { top = p; is_free = r.is_free; starts = first.starts }, ap words f.3 ∙ spelt);
      least = λ u parsed l.
          let w = parsed.0 in
          let e = parsed.1 in
          let inner = whole_parts w in
          let spans : Between ws 0 (length ws) (words_of inner.1) = span_all ws (words_of inner.1) (sym (ap words inner.4) ∙ e) in
          let can : Reach g ws inner.0 0 0 (length ws) = (listings 0 inner.1, rest_of_all inner.3 ws 0 (length ws) (omega arith) spans) in
          let l' : Before (listing 0 (node inner.0 inner.1)) (listing 0 (node p f.0)) =
          subst (λ z. Before (listing 0 z) (listing 0 (node p f.0))) inner.4
          (subst (λ z. Before (listing 0 u) (listing 0 z)) f.3 l) in
          elim (dec_lt inner.0 p) [
            | yes d ↦ first.smaller inner.0 d inner.2 inner.5 can
            | no d ↦ elim (dec_lt p inner.0) [
              | yes m ↦ above p inner.0 _ _ (listings 0 inner.1) (listings 0 f.0) m l'
              | no m ↦
                  let same : inner.0 ≡ p = omega arith in
                  r.least u (subst (λ x. Free g x u) same
                  (subst (λ z. Free g inner.0 z) (sym inner.4) (free_node inner.2 inner.3))) (span_all ws (words u) e) l
            ]
          ];
    }
  where
    above : (p q m n : ℕ) (us vs : List Record) → p < q → ¬ Before (entry q 0 m ∷ us) (entry p 0 n ∷ vs)
    above p q m n us vs d (inl (inl l)) = omega arith
    above p q m n us vs d (inl (inr (e, l))) = omega arith
    above p q m n us vs d (inr (e, l)) = let x : q + 1 ≡ p + 1 = ap (λ z. z.production) e in omega arith

-- the words have one smallest tree at most
pub one_smallest_tree : (g : Grammar) (ws : List ℕ) (t u : Tree) → Smallest g ws t → Smallest g ws u → t ≡ u
one_smallest_tree g ws t u r x =
    let ft = r.parse.0.is_free in
    let fu = x.parse.0.is_free in
    elim (compare_trees ft fu 0 0) [
      | inl e ↦ (same_tree ft fu 0 0 [] [] (ap (λ l. l ++ []) e)).0
      | inr (inl l) ↦ absurd (x.least t r.parse l)
      | inr (inr l) ↦ absurd (r.least u x.parse l)
    ]
