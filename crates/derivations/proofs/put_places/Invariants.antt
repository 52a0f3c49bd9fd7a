use Rattle.grammar.specs.Model.{production}
use Rattle.bitset.specs.Relations.{Holds}
use Rattle.derivations.specs.Steps.{Passes, Gathers}
use Rattle.derivations.proofs.put_places.Given as goal

abbrev pub invariant-loop-k : goal.invariant-loop-k
invariant-loop-k l = Gathers (Holds l.initial.rows) (Holds l.rows) l.k (Passes l.set (production l.p))
