-- The root that is found, and what is listed from it.
use Rattle.std.proofs.Common.{◌≡◌, ℕ, List, ◌++◌, length, drop, Option, Some, None, MatchOption, Ok, Err, Result, sym, refl, ap, ◌∙◌, subst, arith}
use Rattle.grammar.specs.declared.refusals.ReadingRefusal.{ReadingRefusal}
use Rattle.grammar.specs.declared.refusals.ReadingRefusal.TheVariants.{NoSentence}
use Rattle.grammar.specs.Grammar.{Grammar, Known, left_of}
use Rattle.grammar.specs.Trees.{Tree}
use Rattle.grammar.specs.Items.{Item}
use Rattle.theory.specs.Claims.{Sentence}
use Rattle.theory.proofs.Extending.{covers_live}
use Rattle.listing_theory.specs.declared.record.Record.{Record}
use Rattle.listing_theory.specs.Listings.{listing}
use Rattle.listing_theory.specs.Ways.{SmallestAt, Reach}
use Rattle.listing_theory.proofs.Firsts.{FirstRoot as FirstOf}
use Rattle.listing_theory.proofs.Bridge.{all_of_rest}
use Rattle.listing_theory.proofs.Greedy.{smallest_whole, whole_root}
use Rattle.listing_theory.proofs.Charts.{item_of_reach, reach_of_item, rooted}
use Rattle.listing.specs.declared.sources.Sources.{Sources}
use Rattle.listing.specs.declared.node.Node.{Node}
use Rattle.listing.specs.Asked.{words_in, OfGrammar, Root, FirstRoot, NoRoot}
use Rattle.listing.specs.Written.{Writes, ListsNode}
use Rattle.listing.specs.Calls.{Listed}
use Rattle.listing.proofs.Meaning.{item_whole, whole_item}
use Rattle.listing.proofs.Writing.{overlaid_whole, overlaid_cut}

module _ (s : Sources) (g : Grammar) (of : OfGrammar s g) where
  reach_root : (p : ℕ) → Known g p → left_of g p ≡ g.start → Reach g (words_in s) p 0 0 (length (words_in s)) → Root s p
  reach_root p known starts can = (
    (of.means.starts p known).1 (covers_live known (all_of_rest can.1).1, starts),
    item_whole s g of p 0
        (length (words_in s)) (item_of_reach (rooted known starts can) can),
  )

  no_sentence : NoRoot s → ¬ Sentence g (words_in s)
  no_sentence none (u, formed, spelled) =
      let r = whole_root g (words_in s) u formed spelled in
      let e = of.means.known in
      let l = r.1 in
      none r.0 (omega arith) (reach_root r.0 r.1 r.2 r.3)

  module _ (p : ℕ) (first : FirstRoot s p) where
    known_root : Known g p
    known_root = let e = of.means.known in let l = first.known in omega arith

    root_starts : left_of g p ≡ g.start
    root_starts = ((of.means.starts p known_root).0 first.is.0).1

    root_reach : Reach g (words_in s) p 0 0 (length (words_in s))
    root_reach = reach_of_item (whole_item s g of p 0 (length (words_in s)) known_root (omega arith) (omega arith) first.is.1)

    is_first : FirstOf g (words_in s) p
    is_first =
        record {
          known = known_root;
          starts = root_starts;
          can = root_reach;
          smaller = λ r l known starts can. first.smaller r l
              (reach_root r known starts can);
        }

    listed :
        (n : Node) (before after : List Record) (r : Result ℕ ReadingRefusal) →
        n.sources ≡ s →
        n.production ≡ p →
        n.start ≡ 0 →
        n.end ≡ length (words_in s) →
        ListsNode g n before r after →
        Listed g (words_in s) before r after
    listed n before after r same production start end lists =
        let Lists : Sources → ℕ → ℕ → ℕ → Type 0 = λ x q i j.
        OfGrammar x g →
        Item g (words_in x) q 0 i i →
        Reach g (words_in x) q 0 i j →
        (t : Tree) × SmallestAt g (words_in x) q i j t × Writes before (listing i t) r after in
        let of_root =
        subst (λ j. Lists s p 0 j) end (subst (λ i. Lists s p i n.end) start
        (subst (λ q. Lists s q n.start n.end) production (subst (λ x. Lists x n.production n.start n.end) same lists))) in
        by_answer before after r (of_root of (rooted known_root root_starts root_reach) root_reach)
      where
        by_answer :
            (before after : List Record) (r : Result ℕ ReadingRefusal) →
            (t : Tree) × SmallestAt g (words_in s) p 0 (length (words_in s)) t × Writes before (listing 0 t) r after →
            Listed g (words_in s) before r after
        by_answer before after (Ok n) (t, smallest, (wrote, count, room)) = (
          t,
          smallest_whole g (words_in s) p t is_first smallest,
          count,
          room,
          wrote ∙ overlaid_whole before (listing 0 t) (omega arith) ∙ ap (λ k. listing 0 t ++ drop k before) (sym count),
        )
        by_answer before after (Err e) (t, smallest, (is, wrote, short)) =
            subst (λ x. Listed g (words_in s) before (Err x) after) (sym is)
            (t, smallest_whole g (words_in s) p t is_first smallest, short, wrote ∙ overlaid_cut before (listing 0 t) (omega arith))

-- what the search for the root answers
abbrev pub Answer : Sources → Node → Type 0
Answer s n = (n.sources ≡ s) × (n.start ≡ 0) × (n.end ≡ length (words_in s)) × FirstRoot s n.production

module _ {s : Sources} {o : Option Node} (g : Grammar) (of : OfGrammar s g) (answer : MatchOption o (NoRoot s) (Answer s)) where
  pub none_listed : (before : List Record) → o ≡ None → Listed g (words_in s) before (Err NoSentence) before
  none_listed before none = (no_sentence s g of (subst (λ x. MatchOption x (NoRoot s) (Answer s)) none answer), refl)

  pub some_listed :
      (n : Node) (before after : List Record) (r : Result ℕ ReadingRefusal) →
      o ≡ Some n →
      ListsNode g n before r after →
      Listed g (words_in s) before r after
  some_listed n before after r some lists =
      let root = subst (λ x. MatchOption x (NoRoot s) (Answer s)) some answer in
      listed s g of n.production root.3 n before after r root.0 refl root.1 root.2 lists
