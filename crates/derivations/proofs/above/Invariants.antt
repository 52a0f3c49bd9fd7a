use Rattle.grammar.specs.Model.{rules}
use Rattle.bitset.specs.Relations.{Holds}
use Rattle.derivations.specs.Steps.{Prefers, Gathers}
use Rattle.derivations.proofs.Closing.{rule_at}
use Rattle.derivations.proofs.above.Given as goal

abbrev pub invariant-loop-rule : goal.invariant-loop-rule
invariant-loop-rule l = Gathers (Holds l.initial.rows) (Holds l.rows) l.rule-index (λ k. Prefers (rule_at (rules l.rules) k))
