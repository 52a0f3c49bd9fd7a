-- What is written of a node's listing into a slice of a fixed length. Assumes nothing.
use Rattle.std.specs.Prelude.{◌≡◌, ℕ, ◌<◌, ◌≤◌, List, [], ◌∷◌, length, Ok, Err, Result}
use Rattle.grammar.specs.declared.refusals.ReadingRefusal.{ReadingRefusal}
use Rattle.grammar.specs.declared.refusals.ReadingRefusal.TheVariants.{ShortListing}
use Rattle.grammar.specs.Grammar.{Grammar}
use Rattle.grammar.specs.Items.{Item}
use Rattle.grammar.specs.Trees.{Tree}
use Rattle.listing_theory.specs.declared.record.Record.{Record}
use Rattle.listing_theory.specs.Listings.{listing}
use Rattle.listing_theory.specs.Ways.{SmallestAt, Reach}
use Rattle.listing.specs.declared.node.Node.{Node}
use Rattle.listing.specs.Asked.{words_in, OfGrammar}

-- the records with xs written over them from the first on, as far as there is room
unfoldable pub overlaid : List Record → List Record → List Record
overlaid [] xs = []
overlaid (y ∷ ys) [] = y ∷ ys
overlaid (y ∷ ys) (x ∷ xs) = x ∷ overlaid ys xs

-- the answer to writing xs: how many they are, or that they have no room, with those written that have
abbrev pub Writes : List Record → List Record → Result ℕ ReadingRefusal → List Record → Type 0
Writes before xs (Ok n) after = (after ≡ overlaid before xs) × (n ≡ length xs) × (n ≤ length before)
Writes before xs (Err e) after = (e ≡ ShortListing) × (after ≡ overlaid before xs) × (length before < length xs)

-- where the sources are those of the grammar, and the node can stand in a tree, its smallest tree is written
abbrev pub ListsNode : Grammar → Node → List Record → Result ℕ ReadingRefusal → List Record → Type 0
ListsNode g n before r after =
    OfGrammar n.sources g →
    Item g (words_in n.sources) n.production 0 n.start n.start →
    Reach g (words_in n.sources) n.production 0 n.start n.end →
    (t : Tree) × SmallestAt g (words_in n.sources) n.production n.start n.end t × Writes before (listing n.start t) r after
