-- Where all ways are enumerated, their sums come from the sums over fewer symbols and shorter spans.
use Rattle.std.proofs.Common.{◌≡◌, ℕ, suc, ◌+◌, ◌-◌, ◌<◌, ◌≤◌, List, [], ◌∷◌, ◌++◌, map, length, sym, refl, ap, ◌∙◌, subst, arith, length-append}
use native.Mathlib.Decide.{ℕ_discrete}
use Rattle.std.specs.List.{flat_map}
use Rattle.grammar.specs.Grammar.{Grammar, Nonterminal, Kind, At, Known, left_of, right_of, size_of}
use Rattle.grammar.specs.Trees.{Tree, node, Forest, bare, with_leaf, with_tree, words, words_of, Covers, covers_none, covers_leaf, covers_tree, Free, free_node}
use Rattle.grammar.specs.Sound.{Named}
use Rattle.theory.specs.Claims.{Parse, Spells}
use Rattle.scales.specs.Scales.{Scale, SemiringLaws}
use Rattle.score_theory.specs.Totals.{Enumerates}
use Rattle.score_theory.specs.Scores.{price_of, product, products, sum_on, Way, Score}
use Rattle.score_theory.specs.Weights.{Choice, Split, Weights, sum_below}
use Rattle.score_theory.proofs.Enumerations.{enumerates_iff, enumerates_one, enumerates_nothing, enumerates_some, enumerates_map, enumerates_joined, enumerates_if, enumerates_below, list_if, below}
use Rattle.score_theory.proofs.Sums.{sum_same, sum_map, one_sum, sum_joined, sum_times, times_sum, sum_below_is}
use Rattle.score_theory.proofs.Spellings.{spells_none, spells_join, spells_front, spells_back, spells_word, word_spelt, spells_all, all_spelt}
use Rattle.score_theory.proofs.Forests.{front, under, top, last, none_bare, kind_last, tree_last, pairs, enumerates_pairs, choice?}

-- ---- ways, without sums

module _ (g : Grammar) (ws : List ℕ) where
  -- a way through one kind more
  leaf_way : (p k i j a : ℕ) (f : Forest) → At (right_of g p) k a → Kind a → At ws j a → Way g ws p k i j f → Way g ws p (suc k) i (suc j) (with_leaf f a)
  leaf_way p k i j a f at kind here w =
      (covers_leaf w.0 at kind, spells_join ws i j (suc j) (words_of f) (a ∷ []) w.1 (spells_word ws j a here))

  -- what a way through one kind more is
  leaf_parts :
      (p k i j a : ℕ) (z : Forest) →
      At (right_of g p) k a →
      Kind a →
      Way g ws p (suc k) i (suc j) z →
      (f : Forest) × Way g ws p k i j f × At ws j a × (z ≡ with_leaf f a)
  leaf_parts p k i j a z at kind w =
      let r = kind_last a at kind w.0 in
      let f = r.0 in
      let spelt : Spells ws i (suc j) (words_of f ++ (a ∷ [])) = subst (λ z. Spells ws i (suc j) (words_of z)) r.2 w.1 in
      let n = length-append (words_of f) (a ∷ []) in
      let x = spelt.0 in
      let ends : i + length (words_of f) ≡ j = omega arith in (
        f,
        (r.1, subst (λ m. Spells ws i m (words_of f)) ends (spells_front ws i (suc j) (words_of f) (a ∷ []) spelt)),
        word_spelt ws j a (subst (λ m. Spells ws m (suc j) (a ∷ [])) ends (spells_back ws i (suc j) (words_of f) (a ∷ []) spelt)),
        r.2,
      )

  -- z is a way up to m and then a tree of q
  abbrev Parts : ℕ → ℕ → ℕ → ℕ → ℕ → ℕ → Forest → Type 0
  Parts p k i j m q z =
      Choice g p k q × ((f : Forest) × Way g ws p k i m f × ((h : Forest) × Way g ws q (size_of g q) m j h × (z ≡ with_tree f (node q h))))

  abbrev Splits : ℕ → ℕ → ℕ → ℕ → Forest → Type 0
  Splits p k i j z = (x : ℕ) × (x < suc (j - i)) × ((q : ℕ) × (q < length g.productions) × Parts p k i j (i + x) q z)

  tree_way : (p k i j : ℕ) (z : Forest) → Splits p k i j z → Way g ws p (suc k) i j z
  tree_way p k i j z r =
      let m = i + r.0 in
      let q = r.2.0 in
      let ch = r.2.2.0 in
      let f = r.2.2.1.0 in
      let wf = r.2.2.1.1 in
      let h = r.2.2.1.2.0 in
      let wh = r.2.2.1.2.1 in
      subst (Way g ws p (suc k) i j) (sym r.2.2.1.2.2) (
        covers_tree wf.0 ch.1 ch.2 ch.3 ch.0 wh.0,
        spells_join ws i m j (words_of f) (words_of h) wf.1 wh.1,
      )

  tree_parts : (p k i j B : ℕ) (z : Forest) → At (right_of g p) k B → Nonterminal B → Way g ws p (suc k) i j z → Splits p k i j z
  tree_parts p k i j B z at low w =
      let r = tree_last B at low w.0 in
      let q = r.0 in
      let f = r.1 in
      let h = r.2 in
      let spelt : Spells ws i j (words_of f ++ words_of h) = subst (λ z. Spells ws i j (words_of z)) r.6 w.1 in
      let n = length-append (words_of f) (words_of h) in
      let x = spelt.0 in (
        length (words_of f),
        omega arith,
        (
          q,
          r.3.0,
          (
            r.3,
            (
              f,
              (r.4, spells_front ws i j (words_of f) (words_of h) spelt),
              (h, (r.5, spells_back ws i j (words_of f) (words_of h) spelt), r.6),
            ),
          ),
        ),
      )

  abbrev Rooted : ℕ → Tree → Type 0
  Rooted p t = (left_of g p ≡ g.start) × ((f : Forest) × Way g ws p (size_of g p) 0 (length ws) f × (t ≡ node p f))

  rooted_parse : (t : Tree) → ((p : ℕ) × (p < length g.productions) × Rooted p t) → Parse g ws t
  rooted_parse t r =
      let w = r.2.1.1 in
      subst (Parse g ws) (sym r.2.1.2) (record { top = r.0; is_free = free_node r.1 w.0; starts = r.2.0 }, all_spelt ws (words_of r.2.1.0) w.1)

  free_root : {q : ℕ} {t : Tree} → Free g q t → Known g q × ((f : Forest) × Covers g q (size_of g q) f × (t ≡ node q f))
  free_root (free_node {f = f} known c) = (known, (f, c, refl))

  parse_rooted : (t : Tree) → Parse g ws t → (p : ℕ) × (p < length g.productions) × Rooted p t
  parse_rooted t h =
      let r = free_root h.0.is_free in
      let f = r.1.0 in
      let spelt : words_of f ≡ ws = ap (λ (t : Tree). words_of (under t)) (sym r.1.2) ∙ under_words t ∙ h.1 in
      (h.0.top, r.0, (h.0.starts, (f, (r.1.1, spells_all ws (words_of f) spelt), r.1.2)))
    where
      under_words : (t : Tree) → words_of (under t) ≡ words t
      under_words (node q f) = refl

-- ---- sums

module _
    {S : Type 0} (s : Scale S) (laws : SemiringLaws s)
    (g : Grammar) (named : Named g)
    (ws : List ℕ)
    (ways : ℕ → ℕ → ℕ → ℕ → List Forest)
    (all : (p k i j : ℕ) → Enumerates (Way g ws p k i j) (ways p k i j))
  where
    abbrev sum : List Forest → S
    sum fs = sum_on s (products s g) fs

    abbrev W : ℕ → ℕ → ℕ → ℕ → S
    W p k i j = sum (ways p k i j)

    sum_pairs : (q : ℕ) (fs hs : List Forest) → sum (pairs q fs hs) ≡ s.times (sum fs) (s.times (s.value (price_of g q)) (sum hs))
    sum_pairs q fs hs =
        sum_joined s laws (products s g) (λ f. map (λ h. with_tree f (node q h)) hs) fs
        ∙ sum_same
        s
        (λ f. sum (map (λ h. with_tree f (node q h)) hs))
        (λ f. s.times (products s g f) (s.times (s.value (price_of g q)) (sum hs)))
        fs
        (λ f m.
        sum_map s (products s g) (λ h. with_tree f (node q h)) hs
        ∙ sum_times s laws (λ h. s.times (s.value (price_of g q)) (products s g h)) (products s g f) hs
        ∙ ap (s.times (products s g f)) (sum_times s laws (products s g) (s.value (price_of g q)) hs))
        ∙ times_sum s laws (products s g) (s.times (s.value (price_of g q)) (sum hs)) fs

    no_way : (p k i j : ℕ) → ((f : Forest) → ¬ Way g ws p k i j f) → W p k i j ≡ s.none
    no_way p k i j never = ap sum (enumerates_nothing (ways p k i j) (all p k i j) never)

    empty : (p i : ℕ) → i ≤ length ws → W p 0 i i ≡ s.one
    empty p i l =
        one_sum s laws (products s g) (all p 0 i i) (enumerates_iff
        (λ z e. subst (Way g ws p 0 i i) (sym e) (covers_none, spells_none ws i l))
        (λ z h. none_bare h.0 refl)
        (enumerates_one bare))
        ∙ laws.plus_comm s.one s.none
        ∙ laws.plus_none s.one

    no_empty : (p i j : ℕ) → (¬ (i ≡ j)) → W p 0 i j ≡ s.none
    no_empty p i j apart =
        no_way p 0 i j (λ f h.
        let n : length (words_of f) ≡ 0 = ap (λ f. length (words_of f)) (none_bare h.0 refl) in
        let e = h.1.0 in
        apart (omega arith))

    backwards : (p k i j : ℕ) → j < i → W p k i j ≡ s.none
    backwards p k i j l = no_way p k i j (λ f h. let e = h.1.0 in omega arith)

    kind : (p k i j a : ℕ) → At (right_of g p) k a → Kind a → At ws j a → W p (suc k) i (suc j) ≡ W p k i j
    kind p k i j a at is here =
        one_sum s laws (products s g) (all p (suc k) i (suc j)) (enumerates_iff
        (λ z r. subst (Way g ws p (suc k) i (suc j)) (sym r.2) (leaf_way g ws p k i j a r.0 at is here r.1))
        (λ z h. let r = leaf_parts g ws p k i j a z at is h in (r.0, r.1, r.3))
        (enumerates_map (λ f. with_leaf f a) front (λ f. refl) (all p k i j)))
        ∙ sum_map s (products s g) (λ f. with_leaf f a) (ways p k i j)
        ∙ sum_same s (λ f. s.times (products s g f) s.one) (products s g) (ways p k i j) (λ f m. laws.times_one (products s g f))

    no_kind : (p k i j a : ℕ) → At (right_of g p) k a → Kind a → (¬ At ws j a) → W p (suc k) i (suc j) ≡ s.none
    no_kind p k i j a at is other = no_way p (suc k) i (suc j) (λ z h. other (leaf_parts g ws p k i j a z at is h).2)

    no_word : (p k i j a : ℕ) → At (right_of g p) k a → Kind a → j ≤ i → W p (suc k) i j ≡ s.none
    no_word p k i j a at is l =
        no_way p (suc k) i j (λ z h.
        let r = kind_last a at is h.0 in
        let m : length (words_of z) ≡ length (words_of r.0 ++ (a ∷ [])) = ap (λ f. length (words_of f)) r.2 in
        let n = length-append (words_of r.0) (a ∷ []) in
        let e = h.1.0 in
        omega arith)

    module _ (p k i j B : ℕ) (at : At (right_of g p) k B) (low : Nonterminal B) where
      -- the ways that are split at m and end in a tree of q
      abbrev cell : ℕ → ℕ → List Forest
      cell x q = list_if (choice? g named p k q) (pairs q (ways p k i (i + x)) (ways q (size_of g q) (i + x) j))

      split_ways : Enumerates (Way g ws p (suc k) i j) (flat_map (λ x. flat_map (cell x) (below (length g.productions))) (below (suc (j - i))))
      split_ways =
          enumerates_iff
          (tree_way g ws p k i j)
          (λ z. tree_parts g ws p k i j B z at low)
          (enumerates_joined
          {Q = λ x z. (q : ℕ) × (q < length g.productions) × Parts g ws p k i j (i + x) q z}
          (λ x. flat_map (cell x) (below (length g.productions)))
          (λ z. length (words_of (front z)))
          (λ x z r.
          let e = r.2.1.1.1.0 in
          let same : length (words_of (front z)) ≡ length (words_of r.2.1.0) = ap (λ z. length (words_of (front z))) r.2.1.2.2 in
          omega arith)
          (enumerates_below (suc (j - i)))
          (λ x.
          enumerates_joined
          {Q = λ q z. Parts g ws p k i j (i + x) q z}
          (cell x)
          (λ z. top (last z))
          (λ q z r. ap (λ z. top (last z)) r.1.2.2)
          (enumerates_below (length g.productions))
          (λ q. enumerates_if (choice? g named p k q) (enumerates_pairs q (all p k i (i + x)) (all q (size_of g q) (i + x) j)))))

      module _ (term : ℕ → ℕ → S) (split : Split s g W p k i j term) where
        cell_value : (m q : ℕ) (d : Dec (Choice g p k q)) → i ≤ m → m ≤ j → sum (list_if d (pairs q (ways p k i m) (ways q (size_of g q) m j))) ≡ term m q
        cell_value m q (yes ch) l h = sum_pairs q (ways p k i m) (ways q (size_of g q) m j) ∙ sym (split.may m q l h ch)
        cell_value m q (no ch) l h = sym (split.not m q l h ch)

        row_value : (x : ℕ) → i + x ≤ j → sum (flat_map (cell x) (below (length g.productions))) ≡ sum_below s (length g.productions) (λ q. term (i + x) q)
        row_value x h =
            sum_joined s laws (products s g) (cell x) (below (length g.productions))
            ∙ sum_same
            s
            (λ q. sum (cell x q))
            (λ q. term (i + x) q)
            (below (length g.productions))
            (λ q m. cell_value (i + x) q (choice? g named p k q) (omega arith) h)
            ∙ sum_below_is s laws (length g.productions) (λ q. term (i + x) q)

        nonterminal : i ≤ j → W p (suc k) i j ≡ sum_below s (suc (j - i)) (λ x. sum_below s (length g.productions) (λ q. term (i + x) q))
        nonterminal l =
            one_sum s laws (products s g) (all p (suc k) i j) split_ways
            ∙ sum_joined s laws (products s g) (λ x. flat_map (cell x) (below (length g.productions))) (below (suc (j - i)))
            ∙ sum_same
            s
            (λ x. sum (flat_map (cell x) (below (length g.productions))))
            (λ x. sum_below s (length g.productions) (λ q. term (i + x) q))
            (below (suc (j - i)))
            (λ x m. row_value x (let b = ((enumerates_below (suc (j - i))).each x).0 m in omega arith))
            ∙ sum_below_is s laws (suc (j - i)) (λ x. sum_below s (length g.productions) (λ q. term (i + x) q))

    -- the trees of the start production p
    abbrev trees_of : ℕ → List Tree
    trees_of p = list_if (ℕ_discrete (left_of g p) g.start) (map (node p) (ways p (size_of g p) 0 (length ws)))

    all_trees : Enumerates (Parse g ws) (flat_map trees_of (below (length g.productions)))
    all_trees =
        enumerates_iff
        (rooted_parse g ws)
        (parse_rooted g ws)
        (enumerates_joined
        {Q = λ p t. Rooted g ws p t}
        trees_of
        top
        (λ p t r. ap top r.1.2)
        (enumerates_below (length g.productions))
        (λ p. enumerates_if (ℕ_discrete (left_of g p) g.start) (enumerates_map (node p) under (λ f. refl) (all p (size_of g p) 0 (length ws)))))

    module _
        (term : ℕ → S)
        (is : (p : ℕ) → Known g p → left_of g p ≡ g.start → term p ≡ s.times (s.value (price_of g p)) (W p (size_of g p) 0 (length ws)))
        (is_not : (p : ℕ) → Known g p → (¬ (left_of g p ≡ g.start)) → term p ≡ s.none)
      where
        root_value : (p : ℕ) (d : Dec (left_of g p ≡ g.start)) → Known g p → sum_on s (product s g) (list_if d (map (node p) (ways p (size_of g p) 0 (length ws)))) ≡ term p
        root_value p (yes starts) known =
            sum_map s (product s g) (node p) (ways p (size_of g p) 0 (length ws))
            ∙ sum_times s laws (products s g) (s.value (price_of g p)) (ways p (size_of g p) 0 (length ws))
            ∙ sym (is p known starts)
        root_value p (no other) known = sym (is_not p known other)

        whole : Score s g ws (sum_below s (length g.productions) term)
        whole = record {
          trees = flat_map trees_of (below (length g.productions));
          all = all_trees;
          is = sym (
              sum_joined s laws (product s g) trees_of (below (length g.productions))
              ∙ sum_same
              s
              (λ p. sum_on s (product s g) (trees_of p))
              term
              (below (length g.productions))
              (λ p m. root_value p (ℕ_discrete (left_of g p) g.start) (((enumerates_below (length g.productions)).each p).0 m))
              ∙ sum_below_is s laws (length g.productions) term
              );
        }

    pub weights_of : Weights s g ws W
    weights_of = record {
      sums = λ p k i j. record { ways = ways p k i j; all = all p k i j; is = refl };
      decided = λ p k i j. enumerates_some (ways p k i j) (all p k i j);
      no_way = no_way;
      empty = empty;
      no_empty = no_empty;
      backwards = backwards;
      kind = kind;
      no_kind = no_kind;
      no_word = no_word;
      nonterminal = λ p k i j B at low l h term split. nonterminal p k i j B at low term split l;
      whole = whole;
    }
