use Rattle.std.proofs.Common.{arith}
use Rattle.std.proofs.lemmas.List.{length-map}
use Rattle.grammar.specs.Model.{production, productions}
use Rattle.derivations.proofs.Gathering.{gathers_more}
use Rattle.tables.specs.Entries.{Row, KindNext}
use Rattle.tables.specs.Sets.{Marked}
use Rattle.tables.proofs.Tabulating.{Nowhere, gathers_none, tabulates}
use Rattle.tables.proofs.source.Source.before.Goals as goal

pub loop-p-init : goal.loop-p-init
loop-p-init c = gathers_none 64 _

pub loop-p-preserved : goal.loop-p-preserved
loop-p-preserved c =
    let ps = productions c.args.self.now.productions.now in
    gathers_more Nowhere (Marked c.loop-p.before) (Marked c.mark_kinds.new.before) c.loop-p.p (Row ps (KindNext ps)) c.loop-p.invariant c.mark_kinds.ensures

pub returns : goal.returns
returns c =
    let ps = c.args.self.now.productions.now in
    tabulates (productions ps) (KindNext (productions ps)) c.loop-p.before c.loop-p.p (omega (arith, length-map ps production)) c.loop-p.invariant
