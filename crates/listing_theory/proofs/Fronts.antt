-- What a loop over the symbols of a production keeps: what it has listed is the beginning of the smallest way.
use Rattle.std.proofs.Common.{◌≡◌, ℕ, zero, suc, ◌+◌, ◌-◌, ◌*◌, ◌<◌, ◌≤◌, ◌⊎◌, List, [], ◌∷◌, ◌++◌, length, get_or, sym, refl, subst, inl, inr, append_assoc, append-nil, arith}
use mathlib.Core.Logic.Dec
use native.Mathlib.Decide.{dec_lt, ℕ_discrete}
use Rattle.listing_theory.specs.declared.record.Record.{Record}
use Rattle.grammar.specs.Grammar.{Grammar, Nonterminal, Kind, At, Known, left_of, right_of, size_of}
use Rattle.grammar.specs.Trees.{node, Forest, bare, with_leaf, with_tree, words_of, Covers, covers_none, covers_leaf, covers_tree}
use Rattle.listing_theory.specs.Listings.{entry}
use Rattle.listing_theory.specs.Ways.{Between, Rest, rest_end, rest_kind, rest_tree, Reach}
use Rattle.listing_theory.proofs.Firsts.{FitsAt, Steps, SmallestRest, FirstChild}
use Rattle.grammar.specs.Items.{Item, scan}
use Rattle.grammar.specs.Sound.{Named}
use Rattle.theory.proofs.Decisions.{at?}
use Rattle.theory.proofs.Conflicts.{conflict?}
use Rattle.theory.proofs.Items.{item?}
use Rattle.listing_theory.proofs.Charts.{item_inside, item_of_ways, item_of_reach, reach_of_item, predicted, completed}
use Rattle.listing_theory.proofs.Bridge.{all_of_rest, span_none, span_word, span_join}
use Rattle.listing_theory.proofs.Greedy.{rest_ends, rest_after_kind, rest_after_tree, smallest_end, smallest_kind, smallest_tree}
use Rattle.listing_theory.proofs.Descends.{Ranked, rest_rises, child_falls}

-- the first k symbols of p, over the words from i to s, are listed as xs, and the smallest way for p over the words from i to j goes on from there
pub record Front (g : Grammar) (ws : List ℕ) (p i j k s : ℕ) (xs : List Record) : Type 0 where
  pub way : Forest
  pub covers : Covers g p k way
  pub spells : Between ws i s (words_of way)
  pub can : Reach g ws p k s j
  pub onward : (ys : List Record) → SmallestRest g ws p k s j ys → SmallestRest g ws p 0 i j (xs ++ ys)

pub front_begins : (g : Grammar) (ws : List ℕ) (p i j : ℕ) → Reach g ws p 0 i j → Front g ws p i j 0 i []
front_begins g ws p i j can = record { way = bare; covers = covers_none; spells = span_none ws i; can = can; onward = λ ys r. r }

module _ {g : Grammar} {ws : List ℕ} {p i j k s : ℕ} {xs : List Record} (front : Front g ws p i j k s xs) where
  pub front_kind : (a : ℕ) → At (right_of g p) k a → Kind a → Front g ws p i j (suc k) (suc s) xs
  front_kind a at kind =
      let next = rest_after_kind front.can.1 a at kind in
      record {
        way = with_leaf front.way a;
        covers = covers_leaf front.covers at kind;
        spells = span_word ws i s a (words_of front.way) front.spells next.0;
        can = (front.can.0, next.1);
        onward = λ ys r. front.onward ys (smallest_kind g ws p k s j a ys at kind next.0 r);
      }

  pub front_tree :
      (q e : ℕ) (ys : List Record) →
      FirstChild g ws p k s j q e →
      SmallestRest g ws q 0 s e ys →
      Front g ws p i j (suc k) e (xs ++ (entry q s e ∷ ys))
  front_tree q e ys first child =
      let fits = first.can.0 in
      let inner = all_of_rest child.way in
      record {
        way = with_tree front.way (node q inner.0);
        covers = covers_tree front.covers fits.1 fits.2 fits.3 fits.0 inner.1;
        spells = span_join ws i s e (words_of front.way) (words_of inner.0) front.spells inner.2;
        can = first.can.2;
        onward =
            λ zs r. subst (SmallestRest g ws p 0 i j) (sym (append_assoc xs (entry q s e ∷ ys) zs))
            (front.onward (entry q s e ∷ (ys ++ zs)) (smallest_tree g ws p k s j q e ys zs first child r));
      }

  pub front_ends : k ≡ size_of g p → (s ≡ j) × SmallestRest g ws p 0 i j xs
  front_ends e =
      let same = (rest_ends front.can.1 e).0 in
      (same, subst (SmallestRest g ws p 0 i j) (append-nil xs) (front.onward [] (smallest_end g ws p k s j e same)))

-- ---- there is a smallest where it is decided what can stand where

by_iff : {A B : Type 0} → (A → B) → (B → A) → Dec A → Dec B
by_iff to back (yes a) = yes (to a)
by_iff to back (no a) = no (λ g. a (back g))

fits? : (g : Grammar) → Named g → (p k q : ℕ) → Dec (FitsAt g p k q)
fits? g named p k q =
    by_iff (λ h. (h.0, h.1.0, h.1.1.0, h.1.1.1)) (λ h. (h.0, (h.1, (h.2, h.3))))
    (Dec.and (dec_lt q (length g.productions))
    (Dec.and (at? (right_of g p) k (left_of g q)) (Dec.and (dec_lt (left_of g q) 16) (Dec.not (conflict? g named p k q)))))

-- the first below n, if any
abbrev Found : (ℕ → Type 0) → ℕ → Type 0
Found P n = ((m : ℕ) × P m × ((l : ℕ) → l < m → ¬ P l)) ⊎ ((l : ℕ) → l < n → ¬ P l)

find : {P : ℕ → Type 0} → ((m : ℕ) → Dec (P m)) → (n : ℕ) → Found P n
find d zero = inr (λ l h. absurd (omega arith))
find {P} d (suc n) =
    elim (find d n) [
      | inl r ↦ inl r
      | inr none ↦ elim (d n) [
        | yes h ↦ inl (n, h, none)
        | no h ↦ inr (λ l less x. elim (dec_lt l n) [ yes m ↦ none l m x | no m ↦ h (subst P (omega arith) x) ])
      ]
    ]

first_one : {P : ℕ → Type 0} → ((m : ℕ) → Dec (P m)) → (n : ℕ) → P n → (m : ℕ) × P m × ((l : ℕ) → l < m → ¬ P l)
first_one d n h = elim (find d (suc n)) [ inl r ↦ r | inr none ↦ absurd (none n (omega arith) h) ]

abbrev pub NextPart : Grammar → List ℕ → ℕ → ℕ → ℕ → ℕ → List Record → Type 0
NextPart g ws p k s j zs =
    (k ≡ size_of g p) ⊎ (((a : ℕ) × At (right_of g p) k a × Kind a × At ws s a × Rest g ws p (suc k) (suc s) j zs) ⊎
    ((q : ℕ) × (e : ℕ) × Steps g ws p k s j q e))

pub next_part : {g : Grammar} {ws : List ℕ} {p k s j : ℕ} {zs : List Record} → Rest g ws p k s j zs → NextPart g ws p k s j zs
next_part (rest_end at_end same) = inl at_end
next_part (rest_kind {a = a} at kind here rest) = inr (inl (a, at, kind, here, rest))
next_part (rest_tree {e = e} {q = q} {ys = ys} {xs = xs} at low ok known child rest is) =
    inr (inr (q, e, ((known, at, low, ok), (ys, child), (xs, rest))))

abbrev Chosen : Grammar → List ℕ → ℕ → ℕ → ℕ → ℕ → ℕ → ℕ → Type 0
Chosen g ws p k s j q e = FitsAt g p k q × Item g ws q (size_of g q) s e × Reach g ws p (suc k) e j

module _ (g : Grammar) (ws : List ℕ) (named : Named g) where
  chosen? :
      (p k i s j q e : ℕ) →
      Item g ws p k i s →
      ((m : ℕ) → Item g ws p (suc k) i m → Dec (Reach g ws p (suc k) m j)) →
      Dec (Chosen g ws p k s j q e)
  chosen? p k i s j q e item more =
      elim (fits? g named p k q) [
        | no h ↦ no (λ c. h c.0)
        | yes fits ↦ elim (item? g named ws q (size_of g q) s e) [
          | no h ↦ no (λ c. h c.1)
          | yes child ↦ elim (more e (completed item fits child)) [ no h ↦ no (λ c. h c.2) | yes rest ↦ yes (fits, child, rest) ]
        ]
      ]

  chosen_steps : (p k i s j q e : ℕ) → Item g ws p k i s → Chosen g ws p k s j q e → Steps g ws p k s j q e
  chosen_steps p k i s j q e item c = (c.0, reach_of_item c.1, c.2)

  steps_chosen : (p k i s j q e : ℕ) → Item g ws p k i s → Steps g ws p k s j q e → Chosen g ws p k s j q e
  steps_chosen p k i s j q e item c = (c.0, item_of_reach (predicted item c.0 c.1) c.1, c.2)

  module _ (p k i s j : ℕ) (item : Item g ws p k i s) (more : (m : ℕ) → Item g ws p (suc k) i m → Dec (Reach g ws p (suc k) m j)) where
    steps? : (q e : ℕ) → Dec (Steps g ws p k s j q e)
    steps? q e = by_iff (chosen_steps p k i s j q e item) (steps_chosen p k i s j q e item) (chosen? p k i s j q e item more)

    some_end? : (q : ℕ) → Dec ((e : ℕ) × Steps g ws p k s j q e)
    some_end? q =
        elim (find (steps? q) (suc j)) [
          | inl r ↦ yes (r.0, r.1)
          | inr none ↦ no (λ h. let l = rest_rises h.1.2.1 in none h.0 (omega arith) h.1)
        ]

    some_steps? : Dec ((q : ℕ) × ((e : ℕ) × Steps g ws p k s j q e))
    some_steps? =
        elim (find some_end? (length g.productions)) [
          | inl r ↦ yes (r.0, r.1)
          | inr none ↦ no (λ h. none h.0 h.1.1.0.0 h.1)
        ]

    first_child : (q e : ℕ) → Steps g ws p k s j q e → (r : ℕ) × (m : ℕ) × FirstChild g ws p k s j r m
    first_child q e steps =
        let x = first_one {P = λ q. (e : ℕ) × Steps g ws p k s j q e} some_end? q (e, steps) in
        let y = first_one (steps? x.0) x.1.0 x.1.1 in
        (x.0, y.0, record { can = y.1; smaller = λ r m l h. x.2 r l (m, h); sooner = y.2 })

    steps_reach : (q : ℕ) × ((e : ℕ) × Steps g ws p k s j q e) → Reach g ws p k s j
    steps_reach h =
        let st = h.1.1 in
        let fits = st.0 in
        (entry h.0 s h.1.0 ∷ (st.1.0 ++ st.2.0), rest_tree fits.1 fits.2 fits.3 fits.0 st.1.1 st.2.1 refl)

    tree? : k < size_of g p → Nonterminal (get_or (right_of g p) k 0) → Dec (Reach g ws p k s j)
    tree? l low =
        by_iff
        steps_reach
        (λ h. let c = rest_after_tree h.1 (get_or (right_of g p) k 0) (l, refl) low in (c.0, (c.1, (c.4, (c.2, c.5), (c.3, c.6)))))
        some_steps?

    word? : k < size_of g p → Kind (get_or (right_of g p) k 0) → Dec (Reach g ws p k s j)
    word? l kind =
        let a = get_or (right_of g p) k 0 in
        elim (at? ws s a) [
          | no h ↦ no (λ r. h (rest_after_kind r.1 a (l, refl) kind).0)
          | yes here ↦ elim (more (suc s) (scan item (l, refl) kind here)) [
            | no h ↦ no (λ r. h (r.0, (rest_after_kind r.1 a (l, refl) kind).1))
            | yes r ↦ yes (r.0, rest_kind (l, refl) kind here r.1)
          ]
        ]

    neither : k < size_of g p → 48 ≤ get_or (right_of g p) k 0 → ¬ Reach g ws p k s j
    neither l high r =
        elim (next_part r.1) [
          | inl e ↦ omega arith
          | inr (inl (a, at, kind, here, rest)) ↦ let same : get_or (right_of g p) k 0 ≡ a = at.1 in omega arith
          | inr (inr (q, e, st)) ↦ let same : get_or (right_of g p) k 0 ≡ left_of g q = st.0.1.1 in let low = st.0.2 in omega arith
        ]

  -- behind an item it is decided whether the rest can stand
  reach? : (p i j c k s : ℕ) → c + k ≡ size_of g p → Item g ws p k i s → Dec (Reach g ws p k s j)
  reach? p i j zero k s size item =
      let e : k ≡ size_of g p = omega arith in
      by_iff (λ same. ([], rest_end e same)) (λ r. (rest_ends r.1 e).0) (ℕ_discrete s j)
  reach? p i j (suc c) k s size item =
      let more : (m : ℕ) → Item g ws p (suc k) i m → Dec (Reach g ws p (suc k) m j) = λ m it. reach? p i j c (suc k) m (omega arith) it in
      elim (dec_lt (get_or (right_of g p) k 0) 16) [
        | yes low ↦ tree? p k i s j item more (omega arith) low
        | no high ↦ elim (dec_lt (get_or (right_of g p) k 0) 48) [
          | yes kind ↦ word? p k i s j item more (omega arith) (omega arith, kind)
          | no higher ↦ no (neither p k i s j item more (omega arith) (omega arith))
        ]
      ]

  abbrev HasSmallest : ℕ → ℕ → ℕ → ℕ → Type 0
  HasSmallest p k s j = (xs : List Record) × SmallestRest g ws p k s j xs

  module _ (rank : ℕ → ℕ) (n : ℕ) (ranked : Ranked g rank) (small : (A : ℕ) → rank A < n) where
    abbrev measure : ℕ → ℕ → ℕ → ℕ
    measure p i j = (j - i) * n + rank (left_of g p)

    smallest_from :
        (p i j : ℕ) →
        Known g p →
        ((q s e : ℕ) → measure q s e < measure p i j → Known g q → Item g ws q 0 s s → Reach g ws q 0 s e → HasSmallest q 0 s e) →
        (c k s : ℕ) →
        c + k ≡ size_of g p →
        Item g ws p k i s →
        (f : Forest) →
        Covers g p k f →
        Between ws i s (words_of f) →
        Reach g ws p k s j →
        HasSmallest p k s j
    smallest_from p i j known below zero k s size item f covers spells can =
        let e : k ≡ size_of g p = omega arith in
        ([], smallest_end g ws p k s j e (rest_ends can.1 e).0)
    smallest_from p i j known below (suc c) k s size item f covers spells can =
        elim (next_part can.1) [
          | inl e ↦ ([], smallest_end g ws p k s j e (rest_ends can.1 e).0)
          | inr (inl (a, at, kind, here, rest)) ↦
              let more = smallest_from p i j known below c (suc k) (suc s) (omega arith) (scan item at kind here) (with_leaf f a)
              (covers_leaf covers at kind) (span_word ws i s a (words_of f) spells here) (can.0, rest) in
              (more.0, smallest_kind g ws p k s j a more.0 at kind here more.1)
          | inr (inr (q₀, e₀, steps)) ↦
              let x = first_child p k i s j item (λ m it. reach? p i j c (suc k) m (omega arith) it) q₀ e₀ steps in
              let q = x.0 in
              let e = x.1 in
              let first = x.2 in
              let fits = first.can.0 in
              let falls = child_falls rank n ranked small
              (record { parent = known; place = k; before = f; covers = covers; spells = spells; steps = first.can }) in
              let up = predicted item fits first.can.1 in
              let child = below q s e falls fits.0 up first.can.1 in
              let inner = all_of_rest {xs = child.0} child.1.way in
              let more = smallest_from p i j known below c (suc k) e (omega arith) (completed item fits (item_of_reach up first.can.1))
              (with_tree f (node q inner.0)) (covers_tree {h = inner.0} covers fits.1 fits.2 fits.3 fits.0 inner.1)
              (span_join ws i s e (words_of f) (words_of inner.0) spells inner.2) first.can.2 in
              (entry q s e ∷ (child.0 ++ more.0), smallest_tree g ws p k s j q e child.0 more.0 first child.1 more.1)
        ]

    smallest_below : (m p i j : ℕ) → measure p i j < m → Known g p → Item g ws p 0 i i → Reach g ws p 0 i j → HasSmallest p 0 i j
    smallest_below zero p i j l known item can = absurd (omega arith)
    smallest_below (suc m) p i j l known item can =
        smallest_from p i j known (λ q s e less kq it cq. smallest_below m q s e (omega arith) kq it cq) (size_of g p) 0 i (omega arith)
        item bare covers_none (span_none ws i) can

    pub has_smallest : (p i j : ℕ) → Known g p → Item g ws p 0 i i → Reach g ws p 0 i j → HasSmallest p 0 i j
    has_smallest p i j known item can = smallest_below (suc (measure p i j)) p i j (omega arith) known item can

    -- the rest of a front
    pub front_rest :
        {p i j k s : ℕ} {xs : List Record} →
        Known g p →
        Item g ws p 0 i i →
        k ≤ size_of g p →
        Front g ws p i j k s xs →
        HasSmallest p k s j
    front_rest {p} {i} {j} {k} {s} known item l front =
        smallest_from p i j known (λ q s e less kq it cq. has_smallest q s e kq it cq) (size_of g p - k) k s (omega arith)
        (item_of_ways front.covers ws i s (item_inside item).1 front.spells item) front.way front.covers front.spells
        front.can
