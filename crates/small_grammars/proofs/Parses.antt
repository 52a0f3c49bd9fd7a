-- The conflict-free trees of a list of words, computed.
use Rattle.std.proofs.Common.{◌≡◌, ℕ, Bool, true, not, ◌&&◌, List, [], ◌∷◌, length, take, Decides, All, sym, refl, ◌∙◌, subst, append-nil, arith, take_all}
use mathlib.Core.List.{Memᴰ}
use Rattle.std.specs.List.{flat_map}
use Rattle.std.proofs.lemmas.List.Elements.{All-nil, All-cons}
use Rattle.std.proofs.lemmas.Bool.{and_parts}
use Rattle.std.proofs.lemmas.Bool.Decides.{Decides-not}
use Rattle.grammar.specs.Grammar.{Grammar, left_of, size_of}
use Rattle.grammar.specs.Trees.{Tree, node, words, words_of, Covers, Free, free_node}
use Rattle.theory.specs.Claims.{Parse}
use Rattle.score_theory.specs.Totals.{Distinct, distinct_none, distinct_more, Enumerates}
use Rattle.small_grammars.proofs.Sets.{any, decides_in, when, all_of, when_all, all_when, joined_all, all_joined}
use Rattle.small_grammars.proofs.Conflicts.{above, above_closed, above_exact, AboveExact}
use Rattle.small_grammars.proofs.Entries.{entry, accepts, Accepts, decides_accepts}
use Rattle.small_grammars.proofs.Same.{same_tree, decides_tree}
use Rattle.small_grammars.proofs.Ways.{Found, IsWay, ways, ways_closed, found_way, way_found}

-- ---- lists without repeats

module _ {A : Type 0} (same : A → A → Bool) where
  abbrev pub once : List A → Bool
  once [] = true
  once (x ∷ xs) = not (any (same x) xs) && once xs

  pub once_distinct : ((x y : A) → Decides (same x y) (x ≡ y)) → (xs : List A) → once xs ≡ true → Distinct xs
  once_distinct d [] e = distinct_none
  once_distinct d (x ∷ xs) e =
      let r = and_parts (not (any (same x) xs)) (once xs) e in
      distinct_more ((Decides-not _ (decides_in same d x xs)).0 r.0) (once_distinct d xs r.1)

each_in : {A : Type 0} (xs : List A) {P : A → Type 0} → ((x : A) → Memᴰ x xs → P x) → All P xs
each_in [] {P = P} h = All-nil P
each_in (x ∷ xs) {P = P} h = All-cons P x xs (h x (Memᴰ.head refl)) (each_in xs {P = P} (λ y m. h y (Memᴰ.tail m)))

-- ---- the trees of the ways that span all words

abbrev tree_by : Grammar → List ℕ → Found → List Tree
tree_by g ws x = when (accepts g ws x.place) (node x.place.production x.forest)

abbrev trees_of : Grammar → List ℕ → List Found → List Tree
trees_of g ws D = flat_map (tree_by g ws) D

-- the conflict-free trees of the words
abbrev pub parses : Grammar → List ℕ → List Tree
parses g ws = trees_of g ws (ways g (above g) ws)

-- the pairs and the ways that are found are closed, and no tree is found twice
abbrev pub parses_checked : Grammar → List ℕ → Bool
parses_checked g ws = above_closed g && (ways_closed g (above g) ws && once same_tree (parses g ws))

-- a way that spans all words is a tree of them
way_parse : (g : Grammar) (ws : List ℕ) (x : Found) → IsWay g ws x → Accepts g ws x.place → Parse g ws (node x.place.production x.forest)
way_parse g ws x h e =
    let p = x.place.production in
    let c = subst (λ n. Covers g p n x.forest) e.0 h.covers in
    let s : take x.place.ends ws ≡ words_of x.forest = h.spans ∙ rw e.1.0 in
    let t : take x.place.ends ws ≡ ws = take_all x.place.ends ws (omega (arith, e.1.1.0)) in
    (record { top = p; is_free = free_node h.known c; starts = e.1.1.1 }, sym s ∙ t)

module _ (g : Grammar) (A : List (ℕ × ℕ)) (ws : List ℕ) (exact : AboveExact g A) where
  tree_parse : {t : Tree} → Memᴰ t (trees_of g ws (ways g A ws)) → Parse g ws t
  tree_parse =
      all_of (Parse g ws) (trees_of g ws (ways g A ws))
      (joined_all (Parse g ws) (tree_by g ws) (ways g A ws) (λ x m.
      when_all (Parse g ws) _ _ (λ e. way_parse g ws x (found_way g A ws exact m) ((decides_accepts g ws x.place).0 e))))

  free_tree : ways_closed g A ws ≡ true → {q : ℕ} {t : Tree} → Free g q t → left_of g q ≡ g.start → words t ≡ ws → Memᴰ t (trees_of g ws (ways g A ws))
  free_tree closed (free_node {q = q} {f = f} known c) is e =
      let m = way_found g A ws exact closed c [] [] (sym e ∙ sym (append-nil (words_of f))) known in
      let x = entry q (size_of g q) 0 (length (words_of f)) in
      let In : Tree → Type 0 = λ t. Memᴰ t (trees_of g ws (ways g A ws)) in
      let here = all_joined In (tree_by g ws) (ways g A ws) (each_in (trees_of g ws (ways g A ws)) (λ _ n. n)) m in
      all_when In (accepts g ws x) (node q f) here ((decides_accepts g ws x).1 (refl, (refl, (rw e, is))))

-- a passing check gives all trees of the words, each once
pub enumerated : (g : Grammar) (ws : List ℕ) → parses_checked g ws ≡ true → Enumerates (Parse g ws) (parses g ws)
enumerated g ws e =
    let A = above g in
    let r = and_parts (above_closed g) (ways_closed g A ws && once same_tree (parses g ws)) e in
    let s = and_parts (ways_closed g A ws) (once same_tree (parses g ws)) r.1 in
    let exact = above_exact g r.0 in
    record {
      once = once_distinct same_tree decides_tree (parses g ws) s.1;
      each = λ t. (tree_parse g A ws exact, λ h. free_tree g A ws exact s.0 h.0.is_free h.0.starts h.1);
    }
