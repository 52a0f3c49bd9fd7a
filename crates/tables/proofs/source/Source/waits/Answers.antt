use Rattle.std.proofs.Common.{arith}
use Rattle.std.proofs.lemmas.List.{length-map}
use Rattle.grammar.specs.Grammar.{Grammar}
use Rattle.grammar.specs.Model.{production, productions, rules}
use Rattle.derivations.proofs.Gathering.{gathers_more}
use Rattle.tables.specs.Entries.{Row, WaitsFor}
use Rattle.tables.specs.Sets.{Marked}
use Rattle.tables.proofs.Tabulating.{Nowhere, gathers_none, tabulates}
use Rattle.tables.proofs.source.Source.waits.Goals as goal

pub loop-p-init : goal.loop-p-init
loop-p-init c start = gathers_none 64 _

pub loop-p-preserved : goal.loop-p-preserved
loop-p-preserved c start =
    let ps = productions c.args.self.now.productions.now in
    let g : Grammar = record { start = start; productions = ps; rules = rules c.args.self.now.rules.now } in
    gathers_more Nowhere (Marked c.loop-p.waits) (Marked c.mark_production.new.waits) c.loop-p.p (Row ps (WaitsFor g)) (c.loop-p.invariant start)
    (c.mark_production.ensures start)

pub returns : goal.returns
returns c start =
    let ps = c.args.self.now.productions.now in
    let g : Grammar = record { start = start; productions = productions ps; rules = rules c.args.self.now.rules.now } in
    tabulates (productions ps) (WaitsFor g) c.loop-p.waits c.loop-p.p (omega (arith, length-map ps production)) (c.loop-p.invariant start)
