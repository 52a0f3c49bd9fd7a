-- The grammar of a start symbol, stored productions and stored rules. Assumes nothing.
use Rattle.std.specs.Prelude.{ℕ, List}
use Rattle.grammar.specs.declared.production.Production.{Production as Stored}
use Rattle.grammar.specs.declared.rule.Rule.{Rule as Numbered}
use Rattle.grammar.specs.Grammar.{Grammar}
use Rattle.grammar.specs.Model.{productions, rules}

abbrev pub grammar_of : ℕ → List Stored → List Numbered → Grammar
grammar_of start ps rs = record { start = start; productions = productions ps; rules = rules rs }
