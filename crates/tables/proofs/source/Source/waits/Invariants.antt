use Rattle.grammar.specs.Model.{productions, rules}
use Rattle.derivations.specs.Steps.{Gathers}
use Rattle.tables.specs.Entries.{AnyStart, Row, WaitsFor}
use Rattle.tables.specs.Sets.{Marked}
use Rattle.tables.proofs.Tabulating.{Nowhere}
use Rattle.tables.proofs.source.Source.waits.Given as goal

abbrev pub invariant-loop-p : goal.invariant-loop-p
invariant-loop-p l =
    AnyStart (productions l.self.productions.now) (rules l.self.rules.now) (λ g. Gathers Nowhere (Marked l.waits) l.p (Row g.productions (WaitsFor g)))
