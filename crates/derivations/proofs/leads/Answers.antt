use Rattle.std.proofs.Common.{◌≡◌, length, subst, arith}
use mathlib.Core.Logic.Iff
use Rattle.std.proofs.lemmas.List.{length-map}
use Rattle.grammar.specs.Model.{production, productions}
use Rattle.bitset.specs.Relations.{Holds}
use Rattle.derivations.specs.Steps.{Adds, Gathers}
use Rattle.derivations.proofs.Elements.{is_at, left_is_nonterminal}
use Rattle.derivations.proofs.Gathering.{gathers_more, gathers_all}
use Rattle.derivations.proofs.Leading.{PassesSome, PassesAt, passes_leads}
use Rattle.derivations.proofs.leads.Goals as goal

pub put_places-requires : goal.put_places-requires
put_places-requires c =
    left_is_nonterminal c.args.productions.now c.loop-p.p-index c.p-item.result c.requires c.loop-p-test.true c.p-item.is

pub loop-p-preserved : goal.loop-p-preserved
loop-p-preserved c =
    let ps = c.args.productions.now in
    let set = c.nullable-set.result in
    let i = c.loop-p.p-index in
    let mid = Holds c.loop-p.rows in
    let after = Holds c.put_places.new.rows in
    gathers_more (Holds c.empty-rows.result) mid after i (PassesAt set (productions ps)) c.loop-p.invariant
    (subst (λ p. Adds mid after (PassesSome set p)) (is_at ps i c.p-item.result c.loop-p-test.true c.p-item.is) c.put_places.ensures)

pub returns : goal.returns
returns c A B =
    let ps = productions c.args.productions.now in
    let set = c.nullable-set.result in
    let rows = Holds c.loop-p.rows in
    let none = Holds c.empty-rows.result in
    let all : c.loop-p.p-index ≡ length ps = omega (arith, length-map c.args.productions.now production) in
    let whole = subst (λ n. Gathers none rows n (PassesAt set ps)) all c.loop-p.invariant in
    Iff.trans (gathers_all none rows (length ps) (PassesAt set ps) c.empty-rows.ensures whole A B) (passes_leads set ps c.nullable-set.ensures A B)
