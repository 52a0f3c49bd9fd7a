use Rattle.grammar.specs.Model.{productions}
use Rattle.bitset.specs.Relations.{Holds}
use Rattle.derivations.specs.Steps.{Gathers}
use Rattle.derivations.proofs.Leading.{PassesAt}
use Rattle.derivations.proofs.leads.Given as goal

abbrev pub invariant-loop-p : goal.invariant-loop-p
invariant-loop-p l = Gathers (Holds l.initial.rows) (Holds l.rows) l.p-index (PassesAt l.set (productions l.productions))
