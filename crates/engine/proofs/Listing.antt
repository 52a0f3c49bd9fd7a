-- A listing in the records as a listing in the output. Assumes nothing.
use Rattle.std.proofs.Common.{◌≡◌, ℕ, List, length, take, drop, Ok, Err, sym, refl, ap, ◌∙◌, subst, arith}
use Rattle.std.proofs.lemmas.List.{take_at}
use Rattle.grammar.specs.declared.refusals.ReadingRefusal.{ReadingRefusal}
use Rattle.grammar.specs.declared.refusals.ReadingRefusal.TheVariants.{LineFull, NoKind, NothingBegins, NoWord, NoSentence, ShortChart, ShortListing, ShortTable}
use Rattle.grammar.specs.declared.refusals.Refusal.TheVariants.{Reading as Layer}
use Rattle.grammar.specs.Refusals.{number}
use Rattle.grammar.specs.Grammar.{Grammar}
use Rattle.listing_theory.specs.declared.record.Record.{Record}
use Rattle.listing_theory.specs.Listings.{listing}
use Rattle.listing.specs.Calls.{Listed}
use Rattle.engine.specs.Answers.{packed, room, written, Lists, whole, cut, no_sentence}

module _ (g : Grammar) (ws : List ℕ) (size : ℕ) (before after : List Record) (out : List ℕ) (space : length before ≡ room out) where
  moved : {r s : ℕ} {os ps : List ℕ} → r ≡ s → os ≡ ps → Lists g ws size out r os → Lists g ws size out s ps
  moved {r} {s} {os} {ps} e f l = subst (λ qs. Lists g ws size out s qs) f (subst (λ n. Lists g ws size out n os) e l)

  pub listed_whole : (count r : ℕ) (os : List ℕ) → Listed g ws before (Ok count) after → r ≡ packed 0 count → os ≡ written (take count after) out → Lists g ws size out r os
  listed_whole count r os l e f =
      let n = l.2 in
      let m = l.3 in
      let front : take count after ≡ listing 0 l.0 = ap (take count) l.4 ∙ take_at (listing 0 l.0) (drop count before) count (sym n) in
      moved (sym (e ∙ ap (packed 0) n)) (sym (f ∙ ap (λ xs. written xs out) front)) (whole l.1 (omega arith))

  pub listed_cut : (e : ReadingRefusal) (n r : ℕ) (os : List ℕ) → e ≡ ShortListing → Listed g ws before (Err e) after → n ≡ number (Layer e) → r ≡ packed n 0 → os ≡ written after out → Lists g ws size out r os
  listed_cut e n r os s k m f h =
      let l : Listed g ws before (Err ShortListing) after = subst (λ x. Listed g ws before (Err x) after) s k in
      let much = l.2 in
      moved (sym (f ∙ ap (λ (x : ℕ). packed x 0) (m ∙ ap (λ x. number (Layer x)) s))) (sym (h ∙ ap (λ xs. written xs out) (l.3 ∙ ap (λ x. take x (listing 0 l.0)) space))) (cut l.1 (omega arith))

  pub listed_none : (e : ReadingRefusal) (r : ℕ) → (¬ (e ≡ ShortListing)) → Listed g ws before (Err e) after → r ≡ packed (number (Layer e)) size → Lists g ws size out r out
  listed_none NoSentence r n l f = moved (sym f) refl (no_sentence l.0)
  listed_none ShortListing r n l f = absurd (n refl)
  listed_none LineFull r n l f = absurd l
  listed_none NoKind r n l f = absurd l
  listed_none NothingBegins r n l f = absurd l
  listed_none NoWord r n l f = absurd l
  listed_none ShortChart r n l f = absurd l
  listed_none ShortTable r n l f = absurd l
