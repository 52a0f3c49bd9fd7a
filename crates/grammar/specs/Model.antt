-- The model of the plain types. Assumes nothing.
use Rattle.std.specs.Prelude.{◌-◌, List, map}
use Rattle.grammar.specs.declared.production.Production.{Production as Stored}
use Rattle.grammar.specs.declared.rule.Rule.{Rule as Numbered}
use Rattle.grammar.specs.Bytes.{items}
use Rattle.grammar.specs.Grammar.{Production, Rule}

-- what a stored production is
abbrev pub production : Stored → Production
production p = record { left = p.left; right = items p.right; price = p.price }

abbrev pub productions : List Stored → List Production
productions ps = map production ps

-- what a rule by numbers, which count from 1, is
abbrev pub rule : Numbered → Rule
rule r = record { upper = r.upper - 1; relation = r.relation; lower = r.lower - 1 }

abbrev pub rules : List Numbered → List Rule
rules rs = map rule rs
