use Rattle.std.proofs.Common.{◌≡◌, length, sym, subst, arith}
use mathlib.Core.Logic.Iff
use Rattle.std.proofs.lemmas.List.{get_or-map, length-map}
use Rattle.grammar.specs.declared.rule.Relation.TheVariants.{Priority}
use Rattle.grammar.specs.Model.{rule, rules}
use Rattle.grammar.specs.Order.{Ruled}
use Rattle.bitset.specs.Relations.{Holds}
use Rattle.derivations.specs.Steps.{Prefers, Adds, Gathers}
use Rattle.derivations.proofs.Gathering.{gathers_more, gathers_all}
use Rattle.derivations.proofs.Closing.{closure_iff, rule_at, no_rule, prefers_ruled}
use Rattle.derivations.proofs.above.Goals as goal

pub loop-rule-preserved : goal.loop-rule-preserved
loop-rule-preserved c =
    let rs = c.args.rules.now in
    let i = c.loop-rule.rule-index in
    let mid = Holds c.loop-rule.rows in
    let after = Holds c.put_rule.new.rows in
    gathers_more (Holds c.empty-rows.result) mid after i (λ k. Prefers (rule_at (rules rs) k)) c.loop-rule.invariant
    (subst (λ r. Adds mid after (Prefers r)) (sym (get_or-map rule rs i _ no_rule c.loop-rule-test.true)) c.put_rule.ensures)

pub returns : goal.returns
returns c p q =
    let rs = c.args.rules.now in
    let rows = Holds c.loop-rule.rows in
    let none = Holds c.empty-rows.result in
    let all : c.loop-rule.rule-index ≡ length (rules rs) = omega (arith, length-map rs rule) in
    let whole = subst (λ n. Gathers none rows n (λ k. Prefers (rule_at (rules rs) k))) all c.loop-rule.invariant in
    Iff.trans (c.close.ensures p q)
    (closure_iff rows (λ x y. Ruled (rules rs) x Priority y)
    (λ x y.
    Iff.trans (gathers_all none rows (length (rules rs)) (λ k. Prefers (rule_at (rules rs) k)) c.empty-rows.ensures whole x y)
    (prefers_ruled (rules rs) x y))
    p q)
