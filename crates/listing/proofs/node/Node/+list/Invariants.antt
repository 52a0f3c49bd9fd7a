use Rattle.std.proofs.Common.{◌≡◌, ◌+◌, ◌<◌, ◌≤◌, ◌∷◌, List, length}
use Rattle.grammar.specs.Grammar.{Grammar}
use Rattle.grammar.specs.Items.{Item}
use Rattle.listing_theory.specs.declared.record.Record.{Record}
use Rattle.listing_theory.specs.Listings.{entry}
use Rattle.listing_theory.specs.Ways.{Reach}
use Rattle.listing_theory.proofs.Fronts.{Front}
use Rattle.listing.specs.Asked.{words_in, OfGrammar, weight}
use Rattle.listing.specs.Written.{overlaid}
use Rattle.listing.proofs.node.Node.+list.Given as goal

abbrev pub decreases-list : goal.decreases-list
decreases-list l = weight l.self.now.sources l.self.now.production l.self.now.start l.self.now.end

abbrev pub invariant-loop-place : goal.invariant-loop-place
invariant-loop-place l =
    (0 < l.count)
    × (l.count ≤ length l.records)
    × (l.start ≤ 48 + l.place)
    × ((g : Grammar) → OfGrammar l.self.sources g → Item g (words_in l.self.sources) l.self.production 0 l.self.start l.self.start
    → Reach g (words_in l.self.sources) l.self.production 0 l.self.start l.self.end →
    (xs : List Record)
    × Front g (words_in l.self.sources) l.self.production l.self.start l.self.end l.place l.start xs
    × (l.records ≡ overlaid l.fn.records (entry l.self.production l.self.start l.self.end ∷ xs))
    × (l.count ≡ 1 + length xs))
