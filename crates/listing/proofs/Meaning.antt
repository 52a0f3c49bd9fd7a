-- What the answers mean where the sources are those of a grammar: rows hold where ways begin, and the first choice is the first child.
use Rattle.std.proofs.Common.{◌≡◌, ℕ, zero, suc, ◌+◌, ◌-◌, ◌*◌, ◌<◌, ◌≤◌, min, ◌↔◌, List, [], ◌∷◌, ◌++◌, length, get_or, take, sym, refl, ap, ◌∙◌, subst, inl, inr, add-one, arith, length-append}
use native.Mathlib.Decide.{dec_lt}
use Rattle.std.proofs.lemmas.List.{length-take-le}
use Rattle.bitset.specs.Bits.{Has}
use Rattle.grammar.specs.Grammar.{Grammar, Nonterminal, Kind, Known, left_of, right_of, right_at, left_at, size_of}
use Rattle.grammar.specs.Items.{Item, scan}
use Rattle.grammar.specs.Trees.{words_of}
use Rattle.chart.specs.Chart.{Marked}
use Rattle.chart.proofs.Places.{place_low, item_of}
use Rattle.chart.proofs.Bounds.{item_known, item_dot, item_order, item_end}
use Rattle.theory.proofs.Sound.{item_spans}
use Rattle.listing_theory.specs.Listings.{entry}
use Rattle.listing_theory.specs.Ways.{Between, Rest, rest_end, rest_kind, rest_tree, Reach}
use Rattle.listing_theory.proofs.Firsts.{FitsAt, Steps, FirstChild}
use Rattle.listing_theory.proofs.Greedy.{rest_ends, rest_after_kind, rest_after_tree}
use Rattle.listing_theory.proofs.Descends.{Ranked, Child, rest_rises, child_falls}
use Rattle.listing_theory.proofs.Charts.{item_of_reach, reach_of_item, predicted, completed}
use Rattle.listing.specs.declared.sources.Sources.{Sources}
use Rattle.listing.specs.declared.node.Node.{Node}
use Rattle.listing.specs.Asked.{tables_in, words_in, cells_in, OfGrammar, right_in, symbol_in, Begun, Whole, Fits, weight, Choice, FirstChoice, NoChoice, Opens, RowIs, RowsFrom}

-- the rank of a nonterminal by the tables
abbrev pub rank_of : Sources → ℕ → ℕ
rank_of s A = min (get_or (tables_in s).ranks A 0) 16

module _ (s : Sources) (g : Grammar) (of : OfGrammar s g) where
  pub ranks_fall : Ranked g (rank_of s)
  ranks_fall A B h =
      let l = of.means.ranks A B h in
      let a = of.means.ranks_small A in
      let b = of.means.ranks_small B in
      omega arith

  pub ranks_low : (A : ℕ) → rank_of s A < 17
  ranks_low A = omega arith

  right_same : (p : ℕ) → right_of g p ≡ right_in s p
  right_same p = ap (λ ps. right_at ps p) of.same

  pub size_same : (p : ℕ) → length (right_in s p) ≡ size_of g p
  size_same p = ap length (sym (right_same p))

  pub symbol_same : (p k : ℕ) → symbol_in s p k ≡ get_or (right_of g p) k 0
  symbol_same p k = ap (λ xs. get_or xs k 0) (sym (right_same p))

  weight_same : (p i j : ℕ) → weight s p i j ≡ (j - i) * 17 + rank_of s (left_of g p)
  weight_same p i j = ap (λ ps. (j - i) * 17 + rank_of s (left_at ps p)) (sym of.same)

  pub known_in : (q : ℕ) → q < (tables_in s).count → Known g q
  known_in q l = let e = of.means.known in omega arith

  in_known : (q : ℕ) → Known g q → q < (tables_in s).count
  in_known q l = let e = of.means.known in omega arith

  few : (e : ℕ) → e ≤ length (words_in s) → e ≤ 48
  few e l = let m = s.few in omega arith

  item_begun : (p k i j : ℕ) → Item g (words_in s) p k i j → Begun s p k i j
  item_begun p k i j item = (place_low (tables_in s) g of.means p k (item_known item) (item_dot item), of.charted.all p k i j item)

  begun_item :
      (p k i j : ℕ) →
      Known g p →
      k ≤ size_of g p →
      i ≤ length (words_in s) →
      j ≤ length (words_in s) →
      Begun s p k i j →
      Item g (words_in s) p k i j
  begun_item p k i j known l li lj h =
      item_of (tables_in s) g (words_in s) (cells_in s) of.means of.charted.only p k i j known l (few i li) (few j lj) h.1

  pub item_whole : (q i j : ℕ) → Item g (words_in s) q (size_of g q) i j → Whole s q i j
  item_whole q i j item = subst (Marked (cells_in s) i j) (sym (of.means.final q (item_known item))) (of.charted.all q (size_of g q) i j item)

  pub whole_item :
      (q i j : ℕ) →
      Known g q →
      i ≤ length (words_in s) →
      j ≤ length (words_in s) →
      Whole s q i j →
      Item g (words_in s) q (size_of g q) i j
  whole_item q i j known li lj h =
      item_of (tables_in s) g (words_in s) (cells_in s) of.means of.charted.only q (size_of g q) i j known (omega arith)
      (few i li) (few j lj) (subst (Marked (cells_in s) i j) (of.means.final q known) h)

  fits_known : (p k q : ℕ) → Known g p → k ≤ size_of g p → Known g q → Fits s p k q → FitsAt g p k q
  fits_known p k q kp l kq h = let r = (of.means.waits p k q kp l kq).0 h.1 in (kq, r.0, r.1, r.2)

  known_fits : (p k q : ℕ) → Known g p → FitsAt g p k q → Fits s p k q
  known_fits p k q kp h =
      let l : k ≤ size_of g p = let m = h.1.0 in omega arith in
      (place_low (tables_in s) g of.means p k kp l, (of.means.waits p k q kp l h.0).1 (h.1, h.2, h.3))

module _
    (n : Node)
    (g : Grammar)
    (of : OfGrammar n.sources g)
    (known : Known g n.production)
    (begun : Item g (words_in n.sources) n.production 0 n.start n.start)
    (can : Reach g (words_in n.sources) n.production 0 n.start n.end) where
  -- the row of position k holds where the first k symbols end and the others can begin
  abbrev pub Right : ℕ → ℕ → Type 0
  Right k row = (e : ℕ) → Has row e ↔ (Item g (words_in n.sources) n.production k n.start e × Reach g (words_in n.sources) n.production k e n.end)

  module _ (k e next : ℕ) (item : Item g (words_in n.sources) n.production k n.start e) (row : Right (suc k) next) where
    choice_steps : (q m : ℕ) → Choice n k e next q m → Steps g (words_in n.sources) n.production k e n.end q m
    choice_steps q m c =
        let kq = known_in n.sources g of q c.known in
        let w = c.within in (
          fits_known n.sources g of n.production k q known (item_dot item) kq c.fits,
          reach_of_item (whole_item n.sources g of q e m kq (item_end item) (omega arith) c.can.1),
          ((row m).0 c.can.0).1,
        )

    steps_choice : (q m : ℕ) → Steps g (words_in n.sources) n.production k e n.end q m → Choice n k e next q m
    steps_choice q m st =
        let p = n.production in
        let child = item_of_reach (predicted item st.0 st.1) st.1 in
        let f = item_spans item in
        let li = item_order item in
        let le = item_end item in
        let n₁ = length-take-le n.start (words_in n.sources) (omega arith) in
        let n₂ = length-take-le e (words_in n.sources) le in
        let n₃ : length (take e (words_in n.sources)) ≡ length (take n.start (words_in n.sources)) + length (words_of f.0) = ap length f.3 ∙
        length-append (take n.start (words_in n.sources)) (words_of f.0) in
        let spells : Between (words_in n.sources) n.start e (words_of f.0) = (omega arith, f.3) in
        let below : Child g (words_in n.sources) p n.start n.end q e m = record
        { parent = known; place = k; before = f.0; covers = f.1; spells = spells; steps = st } in
        let falls = child_falls (rank_of n.sources) 17 (ranks_fall n.sources g of) (ranks_low n.sources g of) below in
        record {
          known = in_known n.sources g of q st.0.0;
          fits = known_fits n.sources g of p k q known st.0;
          order = rest_rises st.1.1;
          within = rest_rises st.2.1;
          can = (
            (row m).1 (completed item st.0 child, st.2),
            item_whole n.sources g of q e m child,
            subst (λ x. weight n.sources q e m < x) (sym (weight_same n.sources g of p n.start n.end))
                (subst (λ x. x < (n.end - n.start) * 17 + rank_of n.sources (left_of g p)) (sym (weight_same n.sources g of q e m)) falls),
          );
        }

    pub first_steps : (q m : ℕ) → FirstChoice n k e next q m → FirstChild g (words_in n.sources) n.production k e n.end q m
    first_steps q m first =
        let end = first.first in
        record {
          can = choice_steps q m (record { known = first.known; fits = first.fits; order = end.order; within = end.within; can = end.can });
          smaller = λ r l less st. let c = steps_choice r l st in first.smaller r less c.fits l c.order c.within c.can;
          sooner = λ l less st. let c = steps_choice q l st in end.sooner l c.order less c.can;
        }

    pub no_steps :
        k < size_of g n.production →
        Nonterminal (get_or (right_of g n.production) k 0) →
        NoChoice n k e next →
        ¬ Reach g (words_in n.sources) n.production k e n.end
    no_steps l low none there =
        let r = rest_after_tree there.1 (get_or (right_of g n.production) k 0) (l, refl) low in
        let c = steps_choice r.0 r.1 (r.4, (r.2, r.5), (r.3, r.6)) in
        none r.0 c.known c.fits r.1 c.order c.within c.can

    opens_reach : k < size_of g n.production → e ≤ n.end → Opens n k e next → Reach g (words_in n.sources) n.production k e n.end
    opens_reach l le (inl (low, (q, (m, c)))) =
        let st = choice_steps q m c in
        let fits = st.0 in
        (entry q e m ∷ (st.1.0 ++ st.2.0), rest_tree fits.1 fits.2 fits.3 fits.0 st.1.1 st.2.1 refl)
    opens_reach l le (inr (high, (less, (word, on)))) =
        let p = n.production in
        let same = symbol_same n.sources g of p k in
        let top = of.formed.symbols p k known l in
        let kind : Kind (get_or (right_of g p) k 0) = (omega arith, top) in
        let r = ((row (e + 1)).0 on).1 in (
          r.0,
          rest_kind (l, refl) kind (omega arith, word ∙ same)
              (subst (λ x. Rest g (words_in n.sources) p (suc k) x n.end r.0) (add-one e) r.1),
        )

    reach_opens : k < size_of g n.production → Reach g (words_in n.sources) n.production k e n.end → Opens n k e next
    reach_opens l there =
        let p = n.production in
        let a = get_or (right_of g p) k 0 in
        let same = symbol_same n.sources g of p k in
        elim (dec_lt a 16) [
          | yes low ↦
              let c = rest_after_tree there.1 a (l, refl) low in
              inl (omega arith, (c.0, (c.1, steps_choice c.0 c.1 (c.4, (c.2, c.5), (c.3, c.6)))))
          | no high ↦
              let kind : Kind a = (omega arith, of.formed.symbols p k known l) in
              let r = rest_after_kind there.1 a (l, refl) kind in
              let up = rest_rises r.1 in
              let on : Has next (suc e) = (row (suc e)).1 (scan item (l, refl) kind r.0, (there.0, r.1)) in
              inr (omega arith, (omega arith, (r.0.1 ∙ sym same, subst (Has next) (sym (add-one e)) on)))
        ]

  row_right : (k next row : ℕ) → k < size_of g n.production → Right (suc k) next → RowIs n k next row → Right k row
  row_right k next row l more is e = (
    (λ h.
        let r = (is e).0 h in
        let within = r.1 in
        let low = r.0 in
        let item = begun_item n.sources g of n.production k n.start e known (omega arith) (omega arith) (omega arith) r.2 in
        (item, opens_reach k e next item more l r.1 r.3)),
    λ h. (is e).1 (
      item_order h.0,
      rest_rises h.1.1,
      item_begun n.sources g of n.production k n.start e h.0,
      reach_opens k e next
          h.0 more l h.1,
    ),
  )

  module _ (rows : List ℕ) (from : RowsFrom n 0 rows) where
    rows_right_from : (c k : ℕ) → c + k ≡ size_of g n.production → Right k (get_or rows k 0)
    rows_right_from zero k sum e =
        let p = n.production in
        let size : k ≡ size_of g p = omega arith in
        let at : length (right_in n.sources p) ≡ k = size_same n.sources g of p ∙ sym size in
        let same : get_or rows (length (right_in n.sources p)) 0 ≡ get_or rows k 0 = ap (λ i. get_or rows i 0) at in
        let is = from.last e in (
          (λ h.
              let here = is.0 (subst (λ x. Has x e) (sym same) h) in
              let whole = item_of_reach begun can in (
                subst (λ x. Item g (words_in n.sources) p k n.start x) (sym here)
                    (subst (λ x. Item g (words_in n.sources) p x n.start n.end) (sym size) whole),
                ([], rest_end size here),
              )),
          λ h. subst (λ x. Has x e) same (is.1 (rest_ends h.1.1 size).0),
        )
    rows_right_from (suc c) k size e =
        let n₁ = size_same n.sources g of n.production in
        row_right k (get_or rows (suc k) 0) (get_or rows k 0) (omega arith) (rows_right_from c (suc k) (omega arith))
        (subst (λ x. RowIs n k (get_or rows x 0) (get_or rows k 0)) (add-one k) (from.each k (omega arith) (omega arith))) e

    pub rows_right : (k : ℕ) → k ≤ size_of g n.production → Right k (get_or rows k 0)
    rows_right k l = rows_right_from (size_of g n.production - k) k (omega arith)
