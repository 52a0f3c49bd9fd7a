-- What the steps of the walk over the children of a node write.
use Rattle.std.proofs.Common.{◌≡◌, ℕ, suc, ◌+◌, ◌<◌, ◌≤◌, List, ◌∷◌, ◌++◌, length, get_or, take, Ok, Err, Result, sym, refl, ap, ◌∙◌, subst, inl, inr, add-one, arith, length-append}
use Rattle.std.proofs.lemmas.List.{length-take}
use Rattle.grammar.specs.declared.refusals.ReadingRefusal.{ReadingRefusal}
use Rattle.grammar.specs.declared.refusals.ReadingRefusal.TheVariants.{ShortListing}
use Rattle.grammar.specs.Grammar.{Grammar, Nonterminal, Kind, Known, left_of, right_of, size_of}
use Rattle.grammar.specs.Trees.{Tree, words_of}
use Rattle.grammar.specs.Items.{Item}
use Rattle.listing_theory.specs.declared.record.Record.{Record}
use Rattle.listing_theory.specs.Listings.{entry, listing}
use Rattle.listing_theory.specs.Ways.{Between, SmallestAt, Reach}
use Rattle.listing_theory.proofs.Firsts.{FirstChild}
use Rattle.listing_theory.proofs.Charts.{item_inside, item_of_ways, predicted}
use Rattle.listing_theory.proofs.Greedy.{smallest_of, rest_of_smallest}
use Rattle.listing_theory.proofs.Fronts.{Front, front_kind, front_tree, front_ends, front_rest, has_smallest, next_part}
use Rattle.listing.specs.declared.sources.Sources.{Sources}
use Rattle.listing.specs.declared.node.Node.{Node}
use Rattle.listing.specs.Asked.{words_in, OfGrammar, IsNode, FirstChoice, NoChoice, RowsFrom}
use Rattle.listing.specs.Written.{overlaid, Writes, ListsNode}
use Rattle.listing.proofs.Meaning.{rank_of, ranks_fall, ranks_low, known_in, rows_right, first_steps, no_steps}
use Rattle.listing.proofs.Writing.{length_overlaid, overlaid_past, overlaid_full, tail_of, with_tail, length_tail, overlaid_tail}

-- ---- where the words end

span_within : (ws : List ℕ) (i s : ℕ) (us : List ℕ) → i ≤ length ws → Between ws i s us → s ≤ length ws
span_within ws i s us h spells =
    let l : length (take s ws) ≡ length (take i ws) + length us = ap length spells.1 ∙ length-append (take i ws) us in
    let m = length-take s ws in
    let n = length-take i ws in
    let e = spells.0 in
    omega arith

high_kind :
    {g : Grammar} {ws : List ℕ} (p k s j : ℕ) →
    k < size_of g p →
    16 ≤ get_or (right_of g p) k 0 →
    Reach g ws p k s j →
    Kind (get_or (right_of g p) k 0)
high_kind {g} p k s j l high can =
    elim (next_part can.1) [
      | inl e ↦ absurd (omega arith)
      | inr (inl (a, at, kind, here, rest)) ↦ let same : get_or (right_of g p) k 0 ≡ a = at.1 in omega arith
      | inr (inr (q, e, steps)) ↦ let same : get_or (right_of g p) k 0 ≡ left_of g q = steps.0.1.1 in let low = steps.0.2 in absurd (omega arith)
    ]

-- ---- the walk

module _ (s : Sources) (g : Grammar) (of : OfGrammar s g) where
  -- a listing of the smallest tree, written
  abbrev pub Wrote : ℕ → ℕ → ℕ → List Record → Result ℕ ReadingRefusal → List Record → Type 0
  Wrote p i j before r after = (t : Tree) × SmallestAt g (words_in s) p i j t × Writes before (listing i t) r after

  -- what the call for a child says, at the position where it begins
  told :
      (n : Node) (q e : ℕ) (before after : List Record) (r : Result ℕ ReadingRefusal) →
      IsNode n s q e →
      ListsNode g n before r after →
      Item g (words_in s) n.production 0 e e →
      Reach g (words_in s) n.production 0 e n.end →
      Wrote n.production e n.end before r after
  told n q e before after r is lists =
      let Lists : Sources → ℕ → Type 0 = λ x i.
      OfGrammar x g →
      Item g (words_in x) n.production 0 i i →
      Reach g (words_in x) n.production 0 i n.end →
      (t : Tree) × SmallestAt g (words_in x) n.production i n.end t × Writes before (listing i t) r after in
      subst (λ i. Lists s i) is.2 (subst (λ x. Lists x n.start) is.0 lists) of

  pub no_room_at_all :
      (p i j : ℕ) (before : List Record) →
      Known g p →
      Item g (words_in s) p 0 i i →
      Reach g (words_in s) p 0 i j →
      length before ≡ 0 →
      Wrote p i j before (Err ShortListing) before
  no_room_at_all p i j before known item can h =
      let r = has_smallest g (words_in s) of.formed.named (rank_of s) 17 (ranks_fall s g of) (ranks_low s g of) p i j known item can in
      let t = smallest_of g (words_in s) p i j r.0 known (item_inside item).1 r.1 in
      let n : length (listing i t.0) ≡ suc (length r.0) = ap length t.2 in
      (t.0, t.1, (refl, sym (overlaid_past before (listing i t.0) h), omega arith))

  module _
      {p i j k e : ℕ}
      {xs : List Record}
      (known : Known g p)
      (item : Item g (words_in s) p 0 i i)
      (front : Front g (words_in s) p i j k e xs) where
    within : i ≤ length (words_in s)
    within = (item_inside item).1

    pub front_item : Item g (words_in s) p k i e
    front_item = item_of_ways front.covers (words_in s) i e within front.spells item

    front_within : e ≤ length (words_in s)
    front_within = span_within (words_in s) i e (words_of front.way) within front.spells

    pub child_item : {q m : ℕ} → FirstChild g (words_in s) p k e j q m → Item g (words_in s) q 0 e e
    child_item first = predicted front_item first.can.0 first.can.1

    pub front_word_more : k < size_of g p → 16 ≤ get_or (right_of g p) k 0 → Front g (words_in s) p i j (k + 1) (e + 1) xs
    front_word_more l high =
        let f = front_kind front (get_or (right_of g p) k 0) (l, refl) (high_kind p k e j l high front.can) in
        rw (add-one k, add-one e) f

    module _ {q m : ℕ} {t : Tree} (first : FirstChild g (words_in s) p k e j q m) (smallest : SmallestAt g (words_in s) q e m t) where
      front_grows : Front g (words_in s) p i j (suc k) m (xs ++ listing e t)
      front_grows =
          let r = rest_of_smallest g (words_in s) q e m t front_within smallest in
          subst (λ l. Front g (words_in s) p i j (suc k) m (xs ++ l)) (sym r.2) (front_tree front q m r.0 first r.1)

      front_child_more : Front g (words_in s) p i j (k + 1) m (xs ++ listing e t)
      front_child_more = rw add-one front_grows

      -- the listing of the child, written behind the node's record and the children before
      module _
          (before out part : List Record)
          (n : ℕ)
          (was : out ≡ overlaid before (entry p i j ∷ xs))
          (count : n ≡ 1 + length xs)
          (room : n ≤ length out) where
        behind : part ≡ overlaid (tail_of n out) (listing e t) → with_tail n out part ≡ overlaid before (entry p i j ∷ (xs ++ listing e t))
        behind wrote =
            let all : List Record = entry p i j ∷ xs in
            let long : length all ≤ length before = omega (arith, ap length was, length_overlaid before all) in
            ap (with_tail n out) wrote ∙ overlaid_tail before out all (listing e t) n was (omega arith) long

        -- the child is listed
        pub stepped :
            (c n' e' : ℕ) (out' : List Record) →
            Writes (tail_of n out) (listing e t) (Ok c) part →
            out' ≡ with_tail n out part →
            n' ≡ n + c →
            e' ≡ m →
            (ys : List Record) × Front g (words_in s) p i j (k + 1) e' ys × (out' ≡ overlaid before (entry p i j ∷ ys)) × (n' ≡ 1 + length ys)
        stepped c n' e' out' wrote o d f =
            let w = wrote.1 in (
              xs ++ listing e t,
              subst (λ x. Front g (words_in s) p i j (k + 1) x (xs ++ listing e t)) (sym f) front_child_more,
              o ∙ behind wrote.0,
              omega (arith, length-append xs (listing e t)),
            )

        -- the child is cut off
        pub broke :
            (x : ReadingRefusal) (out' : List Record) →
            k < size_of g p →
            Writes (tail_of n out) (listing e t) (Err x) part →
            out' ≡ with_tail n out part →
            Wrote p i j before (Err x) out'
        broke x out' l wrote o =
            let ls = xs ++ listing e t in
            let more = front_rest g (words_in s) of.formed.named (rank_of s) 17 (ranks_fall s g of) (ranks_low s g of) known item l front_grows in
            let all = smallest_of g (words_in s) p i j (ls ++ more.0) known within (front_grows.onward more.0 more.1) in
            let short = wrote.2 in
            let n₁ : length out ≡ length before = ap length was ∙ length_overlaid before (entry p i j ∷ xs) in
            let n₂ : length ls ≡ length xs + length (listing e t) = length-append xs (listing e t) in
            let n₃ : length (ls ++ more.0) ≡ length ls + length more.0 = length-append ls more.0 in
            let n₄ : length (listing i all.0) ≡ suc (length (ls ++ more.0)) = ap length all.2 in
            let n₅ = length_tail n out in
            let full = overlaid_full before (entry p i j ∷ ls) more.0 (omega arith) in
            (all.0, all.1, (wrote.0, o ∙ behind wrote.1 ∙ sym full ∙ ap (overlaid before) (sym all.2), omega arith))

    pub done :
        (before out : List Record) (n : ℕ) →
        k ≡ size_of g p →
        out ≡ overlaid before (entry p i j ∷ xs) →
        n ≡ 1 + length xs →
        n ≤ length out →
        Wrote p i j before (Ok n) out
    done before out n size was count room =
        let r = front_ends front size in
        let all = smallest_of g (words_in s) p i j xs known within r.1 in
        let n₁ : length (listing i all.0) ≡ suc (length xs) = ap length all.2 in (
          all.0,
          all.1,
          (
            was ∙ ap (overlaid before) (sym all.2),
            omega arith,
            omega (arith, ap length was, length_overlaid before (entry p i j ∷ xs)),
          ),
        )

-- the child that the rows give is the first
module _
    (n : Node)
    (g : Grammar)
    (of : OfGrammar n.sources g)
    (rows : List ℕ)
    (from : RowsFrom n 0 rows)
    (item : Item g (words_in n.sources) n.production 0 n.start n.start)
    (can : Reach g (words_in n.sources) n.production 0 n.start n.end) where
  known : Known g n.production
  known = known_in n.sources g of n.production n.known

  module _
      {k e : ℕ}
      {xs : List Record}
      (l : k < size_of g n.production)
      (front : Front g (words_in n.sources) n.production n.start n.end k e xs) where
    front_first :
        {q m : ℕ} → FirstChoice n k e (get_or rows (k + 1) 0) q m → FirstChild g (words_in n.sources) n.production k e n.end q m
    front_first {q} {m} first =
        first_steps n g of known item can k e (get_or rows (suc k) 0) (front_item n.sources g of known item front)
        (rows_right n g of known item can rows from (suc k) l) q m
        (subst (λ x. FirstChoice n k e (get_or rows x 0) q m) (add-one k) first)

    pub front_none : Nonterminal (get_or (right_of g n.production) k 0) → (¬ NoChoice n k e (get_or rows (k + 1) 0))
    front_none low none =
        no_steps n g of known item can k e (get_or rows (suc k) 0) (front_item n.sources g of known item front)
        (rows_right n g of known item can rows from (suc k) l) l low
        (subst (λ x. NoChoice n k e (get_or rows x 0)) (add-one k) none) front.can

    module _
        (child : Node)
        (is : IsNode child n.sources child.production e)
        (choice : FirstChoice n k e (get_or rows (k + 1) 0) child.production child.end)
        (before out part : List Record)
        (m : ℕ)
        (was : out ≡ overlaid before (entry n.production n.start n.end ∷ xs))
        (count : m ≡ 1 + length xs)
        (room : m ≤ length out) where
      told_child : (r : Result ℕ ReadingRefusal) → ListsNode g child (tail_of m out) r part → Wrote n.sources g of child.production e child.end (tail_of m out) r part
      told_child r lists =
          let first = front_first choice in
          told n.sources g of child child.production e (tail_of m out) part r is lists (child_item n.sources g of known item front first) first.can.1

      pub child_stepped :
          (c m' e' : ℕ) (out' : List Record) →
          ListsNode g child (tail_of m out) (Ok c) part →
          out' ≡ with_tail m out part →
          m' ≡ m + c →
          e' ≡ child.end →
          (ys : List Record)
          × Front g (words_in n.sources) n.production n.start n.end (k + 1) e' ys
          × (out' ≡ overlaid before (entry n.production n.start n.end ∷ ys))
          × (m' ≡ 1 + length ys)
      child_stepped c m' e' out' lists o d f =
          let w = told_child (Ok c) lists in
          stepped n.sources g of known item front (front_first choice) w.1 before out part m was count room c m' e' out' w.2 o d f

      pub child_broke :
          (x : ReadingRefusal) (out' : List Record) →
          ListsNode g child (tail_of m out) (Err x) part →
          out' ≡ with_tail m out part →
          Wrote n.sources g of n.production n.start n.end before (Err x) out'
      child_broke x out' lists o =
          let w = told_child (Err x) lists in
          broke n.sources g of known item front (front_first choice) w.1 before out part m was count room x out' l w.2 o
