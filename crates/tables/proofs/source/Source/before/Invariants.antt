use Rattle.grammar.specs.Model.{productions}
use Rattle.derivations.specs.Steps.{Gathers}
use Rattle.tables.specs.Entries.{Row, KindNext}
use Rattle.tables.specs.Sets.{Marked}
use Rattle.tables.proofs.Tabulating.{Nowhere}
use Rattle.tables.proofs.source.Source.before.Given as goal

abbrev pub invariant-loop-p : goal.invariant-loop-p
invariant-loop-p l =
    Gathers Nowhere (Marked l.before) l.p (Row (productions l.self.productions.now) (KindNext (productions l.self.productions.now)))
