-- What the answer to a listing says. Assumes nothing.
use Rattle.std.specs.Prelude.{◌≡◌, ℕ, ◌<◌, ◌≤◌, List, ◌++◌, length, take, drop, Ok, Err, Result}
use Rattle.grammar.specs.declared.refusals.ReadingRefusal.{ReadingRefusal}
use Rattle.grammar.specs.declared.refusals.ReadingRefusal.TheVariants.{LineFull, NoKind, NothingBegins, NoWord, NoSentence, ShortChart, ShortListing, ShortTable}
use Rattle.grammar.specs.Grammar.{Grammar}
use Rattle.grammar.specs.Trees.{Tree}
use Rattle.theory.specs.Claims.{Sentence}
use Rattle.listing_theory.specs.declared.record.Record.{Record}
use Rattle.listing_theory.specs.Listings.{listing, Smallest}

-- The answer to a listing of the words, with the records before and after: the number of records of the smallest tree, which then
-- stand first, and behind them what was there; ShortListing where they have no room, with as many of them as have; NoSentence where
-- the words have no tree, with nothing written.
abbrev pub Listed : Grammar → List ℕ → List Record → Result ℕ ReadingRefusal → List Record → Type 0
Listed g ws before (Ok n) after =
    (t : Tree) × Smallest g ws t × (n ≡ length (listing 0 t)) × (n ≤ length before) × (after ≡ listing 0 t ++ drop n before)
Listed g ws before (Err ShortListing) after =
    (t : Tree) × Smallest g ws t × (length before < length (listing 0 t)) × (after ≡ take (length before) (listing 0 t))
Listed g ws before (Err NoSentence) after = (¬ Sentence g ws) × (after ≡ before)
Listed g ws before (Err LineFull) after = ⊥
Listed g ws before (Err NoKind) after = ⊥
Listed g ws before (Err NothingBegins) after = ⊥
Listed g ws before (Err NoWord) after = ⊥
Listed g ws before (Err ShortChart) after = ⊥
Listed g ws before (Err ShortTable) after = ⊥
