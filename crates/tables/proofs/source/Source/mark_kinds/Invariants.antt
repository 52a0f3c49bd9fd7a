use Rattle.grammar.specs.Model.{productions}
use Rattle.derivations.specs.Steps.{Gathers}
use Rattle.tables.specs.Entries.{Entry, KindNext}
use Rattle.tables.specs.Sets.{Marked}
use Rattle.tables.proofs.source.Source.mark_kinds.Given as goal

abbrev pub invariant-loop-k : goal.invariant-loop-k
invariant-loop-k l =
    let ps = productions l.self.productions.now in
    Gathers (Marked l.initial.before) (Marked l.before) l.k (Entry ps (KindNext ps) l.p)
