use Rattle.grammar.specs.Model.{productions, rules}
use Rattle.derivations.specs.Steps.{Gathers}
use Rattle.tables.specs.Entries.{AnyStart, Entry, WaitsFor}
use Rattle.tables.specs.Sets.{Marked}
use Rattle.tables.proofs.source.Source.mark_production.Given as goal

abbrev pub invariant-loop-k : goal.invariant-loop-k
invariant-loop-k l =
    AnyStart (productions l.self.productions.now) (rules l.self.rules.now)
    (λ g. Gathers (Marked l.initial.waits) (Marked l.waits) l.k (Entry g.productions (WaitsFor g) l.p))
