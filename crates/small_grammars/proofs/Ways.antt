-- The ways through the first symbols of productions that have words of a list, computed.
use Rattle.std.proofs.Common.{◌≡◌, ℕ, suc, ◌+◌, ◌*◌, ◌≤◌, Bool, true, ◌&&◌, List, [], ◌∷◌, ◌++◌, length, get_or, take, Decides, All, sym, refl, ap, ◌∙◌, subst, append_assoc, append-nil, arith, length-append}
use mathlib.Core.List.{Memᴰ}
use Rattle.std.specs.List.{flat_map}
use Rattle.std.proofs.lemmas.List.Elements.{All-nil, All-cons, All-head, All-append}
use Rattle.std.proofs.lemmas.Bool.Decides.{Decides-like, Decides-and}
use Rattle.grammar.specs.Grammar.{Grammar, Nonterminal, Kind, At, Known, left_of, right_of, size_of, places}
use Rattle.grammar.specs.Order.{Conflict}
use Rattle.grammar.specs.Trees.{node, Forest, bare, with_leaf, with_tree, words_of, Covers, covers_none, covers_leaf, covers_tree}
use Rattle.theory.proofs.Lists.{take_at, at_split}
use Rattle.small_grammars.proofs.Sets.{when, all_of, all_parts, when_all, all_when, joined_all, all_joined, subset, saturate, saturate_all, subset_all}
use Rattle.small_grammars.proofs.Conflicts.{AboveExact}
use Rattle.small_grammars.proofs.Lives.{below, into_below, from_below}
use Rattle.small_grammars.proofs.Entries.{Entry, entry, same_entry, decides_entry}
use Rattle.small_grammars.proofs.Moves.{reads, decides_reads, completes, decides_completes}
use Rattle.small_grammars.proofs.Same.{same_forest, decides_forest}

-- a way, and the entry that it is a way of
pub record Found : Type 0 where
  pub place : Entry
  pub forest : Forest

abbrev pub found : Entry → Forest → Found
found x f = record { place = x; forest = f }

abbrev same_found : Found → Found → Bool
same_found x y = same_entry x.place y.place && same_forest x.forest y.forest

decides_found : (x y : Found) → Decides (same_found x y) (x ≡ y)
decides_found x y =
    Decides-like
    _
    (λ h i. record { place = h.0 i; forest = h.1 i })
    (λ e. (ap (λ (z : Found). z.place) e, ap (λ (z : Found). z.forest) e))
    (Decides-and _ _ (decides_entry x.place y.place) (decides_forest x.forest y.forest))

-- f is a way through the first k symbols of p that has the words from i to j
pub record IsWay (g : Grammar) (ws : List ℕ) (x : Found) : Type 0 where
  pub known : Known g x.place.production
  pub covers : Covers g x.place.production x.place.dot x.forest
  pub inside : x.place.ends ≤ length ws
  pub spans : take x.place.ends ws ≡ take x.place.origin ws ++ words_of x.forest

module _ (g : Grammar) (A : List (ℕ × ℕ)) (ws : List ℕ) where
  -- a way through no symbols
  abbrev begin_by : ℕ → ℕ → List Found
  begin_by p i = found (entry p 0 i i) bare ∷ []

  abbrev begin_all : ℕ → List Found
  begin_all p = flat_map (begin_by p) (below (suc (length ws)))

  -- one word more
  abbrev read_by : Found → List Found
  read_by y =
      let x = y.place in
      when (reads g ws x) (found (entry x.production (suc x.dot) x.origin (suc x.ends)) (with_leaf y.forest (get_or ws x.ends 0)))

  -- one tree more
  abbrev join_by : Found → Found → List Found
  join_by y z =
      let x = y.place in
      when (completes g A x z.place) (found (entry x.production (suc x.dot) x.origin z.place.ends) (with_tree y.forest (node z.place.production z.forest)))

  abbrev found_by : List Found → Found → List Found
  found_by D y = read_by y ++ flat_map (join_by y) D

  abbrev found_step : List Found → List Found
  found_step D = flat_map begin_all (below (length g.productions)) ++ flat_map (found_by D) D

  -- more steps than small grammars need; the test below tells
  abbrev steps : ℕ
  steps = places g.productions * suc (length ws)

  abbrev pub ways : List Found
  ways = saturate same_found found_step steps []

  -- nothing more follows
  abbrev pub ways_closed : Bool
  ways_closed = subset same_found (found_step ways) ways

  module _ (exact : AboveExact g A) where
    abbrev W : Found → Type 0
    W = IsWay g ws

    begin_way : (p i : ℕ) → Known g p → i ≤ length ws → W (found (entry p 0 i i) bare)
    begin_way p i known inside = record { known = known; covers = covers_none; inside = inside; spans = sym (append-nil (take i ws)) }

    read_way : (y : Found) → W y → All W (read_by y)
    read_way y h =
        when_all W _ _ (λ e.
        let x = y.place in
        let r = (decides_reads g ws x).0 e in
        let a = get_or ws x.ends 0 in
        record {
          known = h.known;
          covers = covers_leaf h.covers r.0 r.1.0;
          inside = r.1.1;
          spans = take_at ws x.ends a (r.1.1, refl) ∙ rw h.spans (append_assoc (take x.origin ws) (words_of y.forest) (a ∷ []));
        })

    -- the words of both, one behind the other
    both_span : (us vs : List ℕ) (h i j k : ℕ) → take i ws ≡ take h ws ++ us → take k ws ≡ take j ws ++ vs → j ≡ i → take k ws ≡ take h ws ++ (us ++ vs)
    both_span us vs h i j k e₁ e₂ e = e₂ ∙ ap (λ n. take n ws ++ vs) e ∙ rw e₁ (append_assoc (take h ws) us vs)

    join_way : (y z : Found) → W y → W z → All W (join_by y z)
    join_way y z h k =
        when_all W _ _ (λ e.
        let x = y.place in
        let r = (decides_completes g A exact x z.place).0 e in
        record {
          known = h.known;
          covers = covers_tree h.covers r.1.0 r.1.1.0 r.1.1.1 k.known (subst (λ n. Covers g z.place.production n z.forest) r.0.1 k.covers);
          inside = k.inside;
          spans = both_span (words_of y.forest) (words_of z.forest) x.origin x.ends z.place.origin z.place.ends h.spans k.spans r.0.0;
        })

    found_keeps : (D : List Found) → All W D → All W (found_step D)
    found_keeps D h =
        All-append W _ _
        (joined_all W begin_all (below (length g.productions)) (λ p m.
        joined_all W (begin_by p) (below (suc (length ws))) (λ i n.
        let l = from_below (suc (length ws)) i n in
        All-cons W _ [] (begin_way p i (from_below (length g.productions) p m) (omega arith)) (All-nil W))))
        (joined_all W (found_by D) D (λ y m.
        let before = all_of W D h m in
        All-append W _ _ (read_way y before) (joined_all W (join_by y) D (λ z n. join_way y z before (all_of W D h n)))))

    -- ---- a closed list has every way

    module _ (D : List Found) (h : All (λ x. Memᴰ x D) (found_step D)) where
      abbrev In : Found → Type 0
      In x = Memᴰ x D

      -- the same way of an entry with equal numbers
      in_at : {p k i j m : ℕ} {f f' : Forest} → j ≡ m → f ≡ f' → In (found (entry p k i j) f) → In (found (entry p k i m) f')
      in_at {p} {k} {i} {j} {m} {f} {f'} e₁ e₂ x = subst (λ n. In (found (entry p k i n) f')) e₁ (subst (λ v. In (found (entry p k i j) v)) e₂ x)

      after : (y : Found) → In y → All In (read_by y) × All In (flat_map (join_by y) D)
      after y m =
          let r = all_joined In (found_by D) D (all_parts In (flat_map begin_all (below (length g.productions))) (flat_map (found_by D) D) h).1 m in
          all_parts In (read_by y) (flat_map (join_by y) D) r

      begin_in : (p i : ℕ) → Known g p → i ≤ length ws → In (found (entry p 0 i i) bare)
      begin_in p i known inside =
          let r = all_joined In begin_all (below (length g.productions)) (all_parts In (flat_map begin_all (below (length g.productions))) (flat_map (found_by D) D) h).0 (into_below (length g.productions) p known) in
          All-head In (found (entry p 0 i i) bare) [] (all_joined In (begin_by p) (below (suc (length ws))) r (into_below (suc (length ws)) i (omega arith)))

      read_in : (p k i j a : ℕ) (f : Forest) → In (found (entry p k i j) f) → At (right_of g p) k a → Kind a → At ws j a → In (found (entry p (suc k) i (suc j)) (with_leaf f a))
      read_in p k i j a f m at kind here =
          let x = entry p k i j in
          let e = sym here.1 in
          in_at refl (ap (with_leaf f) here.1)
          (all_when In (reads g ws x) (found (entry p (suc k) i (suc j)) (with_leaf f (get_or ws j 0))) (after (found x f) m).0
          ((decides_reads g ws x).1 (subst (At (right_of g p) k) e at, (subst Kind e kind, here.0))))

      join_in :
          (p k h i j q : ℕ) (f below : Forest) →
          In (found (entry p k h i) f) →
          In (found (entry q (size_of g q) i j) below) →
          At (right_of g p) k (left_of g q) →
          Nonterminal (left_of g q) →
          (¬ Conflict g p k q) →
          In (found (entry p (suc k) h j) (with_tree f (node q below)))
      join_in p k h i j q f below m n at low ok =
          let x = entry p k h i in
          let z = entry q (size_of g q) i j in
          all_when In (completes g A x z) (found (entry p (suc k) h j) (with_tree f (node q below))) (all_joined In (join_by (found x f)) D (after (found x f) m).1 n)
          ((decides_completes g A exact x z).1 ((refl, refl), (at, (low, ok))))

      covers_in :
          {p k : ℕ} {f : Forest} →
          Covers g p k f →
          (pre post : List ℕ) →
          ws ≡ pre ++ (words_of f ++ post) →
          Known g p →
          In (found (entry p k (length pre) (length (pre ++ words_of f))) f)
      covers_in (covers_none {p = p}) pre post e known =
          let l : length ws ≡ length pre + length post = ap length e ∙ length-append pre post in
          in_at (ap length (sym (append-nil pre))) refl (begin_in p (length pre) known (omega arith))
      covers_in (covers_leaf {p = p} {k = k} {a = a} {f = f} c at kind) pre post e known =
          let before = covers_in c pre (a ∷ post) (e ∙ simp append_assoc) known in
          let here = at_split ws (pre ++ words_of f) a post (e ∙ simp append_assoc) in
          let ends : suc (length (pre ++ words_of f)) ≡ length (pre ++ (words_of f ++ (a ∷ []))) = simp length-append (omega arith) in
          in_at ends refl (read_in p k (length pre) (length (pre ++ words_of f)) a f before at kind here)
      covers_in (covers_tree {p = p} {k = k} {q = q} {f = f} {h = below} c at low ok is cb) pre post e known =
          let before = covers_in c pre (words_of below ++ post) (e ∙ simp append_assoc) known in
          let child = covers_in cb (pre ++ words_of f) post (e ∙ simp append_assoc) is in
          in_at (ap length (append_assoc pre (words_of f) (words_of below))) refl
          (join_in p k (length pre) (length (pre ++ words_of f)) (length ((pre ++ words_of f) ++ words_of below)) q f below before child at low ok)

    -- ---- exactly the ways are found

    pub found_way : {x : Found} → Memᴰ x ways → IsWay g ws x
    found_way = all_of W ways (saturate_all same_found W found_step found_keeps steps [] (All-nil W))

    pub way_found :
        ways_closed ≡ true →
        {p k : ℕ} {f : Forest} →
        Covers g p k f →
        (pre post : List ℕ) →
        ws ≡ pre ++ (words_of f ++ post) →
        Known g p →
        Memᴰ (found (entry p k (length pre) (length (pre ++ words_of f))) f) ways
    way_found closed = covers_in ways (subset_all same_found decides_found (found_step ways) ways closed)
