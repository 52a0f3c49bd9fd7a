-- What a listing and a score answer for the words that stand.
use Rattle.std.proofs.Common.{◌≡◌, ℕ, suc, ◌+◌, ◌*◌, ◌<◌, ◌≤◌, List, [], ◌∷◌, ◌++◌, length, take, drop, Ok, Err, Result, sym, refl, ap, ◌∙◌, subst, arith}
use mathlib.Core.List.Memᴰ
use Rattle.std.proofs.lemmas.List.{take-append-le, take_all}
use Rattle.grammar.specs.declared.refusals.ReadingRefusal.{ReadingRefusal}
use Rattle.grammar.specs.declared.refusals.ReadingRefusal.TheVariants.{LineFull, NoKind, NothingBegins, NoWord, NoSentence, ShortChart, ShortListing, ShortTable}
use Rattle.grammar.specs.declared.refusals.Refusal.TheVariants.{Reading as Layer}
use Rattle.grammar.specs.Grammar.{Grammar, places}
use Rattle.grammar.specs.Refusals.{number}
use Rattle.grammar.specs.Trees.{Tree}
use Rattle.theory.specs.Claims.{Parse, Sentence}
use Rattle.scales.specs.Scales.{Scale, SemiringLaws}
use Rattle.listing_theory.specs.declared.record.Record.{Record}
use Rattle.listing_theory.specs.Listings.{listing, Smallest}
use Rattle.listing_theory.proofs.Greedy.{one_smallest_tree}
use Rattle.score_theory.specs.Totals.{Enumerates}
use Rattle.score_theory.specs.Scores.{Score}
use Rattle.score_theory.proofs.Weighing.{one_score}
use Rattle.small_grammars.specs.Parses.{Lists, Trees}
use Rattle.listing.specs.Calls.{Listed as ListsInto}
use Rattle.reading.specs.declared.reading.Reading.{Reading}
use Rattle.reading.specs.Readings.{words, cells, grammar_of, Long, Listed, Scored, ScoreCause, chart_too_short, table_too_short}
use Rattle.clients.proofs.Calls.{Stands, never}

-- what has a smallest listing is a sentence
pub lists_sentence : (g : Grammar) (ws : List ℕ) (xs : List Record) → Lists g ws xs → Sentence g ws
lists_sentence g ws xs h = (h.0, h.1.parse.0, h.1.parse.1)

-- so is what has trees
pub trees_sentence : (g : Grammar) (ws : List ℕ) (n : ℕ) → Trees g ws (suc n) → Sentence g ws
trees_sentence g ws n t = some t.members t.all t.many
  where
    some : (ts : List Tree) → Enumerates (Parse g ws) ts → length ts ≡ suc n → Sentence g ws
    some [] e h = absurd (omega arith)
    some (u ∷ us) e h = let parse = (e.each u).0 (Memᴰ.head refl) in (u, parse.0, parse.1)

ok_same : {V : Type 0} (v w : V) → ◌≡◌ {A = Result V ReadingRefusal} (Ok v) (Ok w) → v ≡ w
ok_same v w h = cc

-- the smallest listing that there is room for is the answer
module _ (g : Grammar) (ws : List ℕ) (before after : List Record) where
  one_listing : (xs : List Record) (t : Tree) → Lists g ws xs → Smallest g ws t → listing 0 t ≡ xs
  one_listing xs t h s = ap (listing 0) (one_smallest_tree g ws t h.0 s h.1) ∙ h.2

  lists : (xs : List Record) → Lists g ws xs → length xs ≤ length before → (r : Result ℕ ReadingRefusal) → ListsInto g ws before r after → (r ≡ Ok (length xs)) × (after ≡ xs ++ drop (length xs) before)
  lists xs h room (Ok n) a =
      let same = one_listing xs a.0 h a.1 in
      let size : n ≡ length xs = a.2 ∙ ap length same in
      (ap Ok size, a.4 ∙ (λ i. same i ++ drop (size i) before))
  lists xs h room (Err ShortListing) a = absurd (let z = ap length (one_listing xs a.0 h a.1) in let y = a.2 in omega arith)
  lists xs h room (Err NoSentence) a = absurd (a.0 (lists_sentence g ws xs h))
  lists xs h room (Err LineFull) a = absurd a
  lists xs h room (Err NoKind) a = absurd a
  lists xs h room (Err NothingBegins) a = absurd a
  lists xs h room (Err NoWord) a = absurd a
  lists xs h room (Err ShortChart) a = absurd a
  lists xs h room (Err ShortTable) a = absurd a

  lists_only : (n : ℕ) → ListsInto g ws before (Ok n) after → Lists g ws (take n after)
  lists_only n a =
      let xs = listing 0 a.0 in
      let front : take n (xs ++ drop n before) ≡ xs = take-append-le n xs (drop n before) (omega (arith, a.2)) ∙ take_all n xs (omega (arith, a.2)) in
      (a.0, a.1, sym (ap (take n) a.4 ∙ front))

module _ (q : Reading) (g : Grammar) (ws : List ℕ) (s : Stands q g ws) (before after : List Record) (r : Result ℕ ReadingRefusal) (a : Listed q before r after) where
  here : ListsInto g ws before r after
  here = rw (← s.grammar, ← s.standing) (a.listed s.long s.marks)

  pub list_stands : (xs : List Record) → Lists g ws xs → length xs ≤ length before → (r ≡ Ok (length xs)) × (after ≡ xs ++ drop (length xs) before)
  list_stands xs h room = lists g ws before after xs h room r here

  pub list_only : (n : ℕ) → r ≡ Ok n → Lists g ws (take n after)
  list_only n h = lists_only g ws before after n (subst (λ z. ListsInto g ws before z after) h here)

-- the score of the words that stand is the answer where the table has room
module _ {S : Type 0} (scale : Scale S) (q : Reading) (before after : List S) where
  pub score_stands :
      SemiringLaws scale →
      (g : Grammar) (ws : List ℕ) →
      Stands q g ws →
      (v : S) →
      places g.productions * ((length ws + 1) * (length ws + 1)) ≤ length before →
      Score scale g ws v →
      (r : Result S ReadingRefusal) →
      Scored scale q before r after →
      r ≡ Ok v
  score_stands laws g ws s v room d (Ok u) a =
      let d' : Score scale (grammar_of q) (words q) v = rw (s.grammar, s.standing) d in
      ap Ok (one_score scale laws (grammar_of q) (words q) u v a.1.0 d')
  score_stands laws g ws s v room d (Err e) a = absurd (uncaused _ a.0)
    where
      uncaused : (n : ℕ) → ¬ ScoreCause q (length before) n
      uncaused _ (chart_too_short h) = h s.long
      uncaused _ (table_too_short h) =
          let same : places (grammar_of q).productions * ((length (words q) + 1) * (length (words q) + 1)) ≡ places g.productions * ((length ws + 1) * (length ws + 1)) = λ i. places (s.grammar i).productions * ((length (s.standing i) + 1) * (length (s.standing i) + 1)) in
          let room' = subst (λ n. n ≤ length before) (sym same) room in
          omega arith

  pub score_only : (g : Grammar) (ws : List ℕ) → Stands q g ws → (v : S) (r : Result S ReadingRefusal) → r ≡ Ok v → Scored scale q before r after → Score scale g ws v
  score_only g ws s v (Ok u) h a = subst (Score scale g ws) (ok_same u v h) (rw (← s.grammar, ← s.standing) a.1.0)
  score_only g ws s v (Err e) h a = absurd (never _ _ _ h refl)

  below : (m : ℕ) → ScoreCause q (length before) m → ¬ (m < 14)
  below _ (chart_too_short h) l = omega arith
  below _ (table_too_short h) l = omega arith

  -- on a short chart the score is refused for that
  pub score_short : (¬ Long (cells q)) → (r : Result S ReadingRefusal) → Scored scale q before r after → r ≡ Err ShortChart
  score_short n (Ok v) a = absurd (a.0 14 (chart_too_short n))
  score_short n (Err e) a = ap Err (first e _ refl a.0 a.1)
    where
      first : (e : ReadingRefusal) (m : ℕ) → number (Layer e) ≡ m → ScoreCause q (length before) m → ((k : ℕ) → k < number (Layer e) → ¬ ScoreCause q (length before) k) → e ≡ ShortChart
      first ShortChart m h c f = refl
      first ShortTable m h c f = absurd (f 14 (omega arith) (chart_too_short n))
      first ShortListing m h c f = absurd (f 14 (omega arith) (chart_too_short n))
      first LineFull m h c f = absurd (below m c (omega arith))
      first NoKind m h c f = absurd (below m c (omega arith))
      first NothingBegins m h c f = absurd (below m c (omega arith))
      first NoWord m h c f = absurd (below m c (omega arith))
      first NoSentence m h c f = absurd (below m c (omega arith))
