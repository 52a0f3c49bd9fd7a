use Rattle.std.proofs.Common.{◌<◌, length, sym, subst, arith, rules as rule_steps, tests}
use Rattle.std.proofs.lemmas.Bool.{MatchBool-at_true, MatchBool-at_false}
use Rattle.std.proofs.lemmas.Iterator.{cases_from_any, YieldsList-from_slice}
use Rattle.std.proofs.lemmas.List.{get_or-map, length-map}
use Rattle.grammar.specs.declared.rule.Relation.TheVariants.{Priority}
use Rattle.grammar.specs.declared.rule.Rule.{Rule as Numbered}
use Rattle.grammar.specs.Grammar.{Rule, no_rule}
use Rattle.grammar.specs.Model.{rule, rules}
use Rattle.tables.specs.Conflicts.{Relates}
use Rattle.tables.proofs.Relating.{beside_at, at_beside}
use Rattle.tables.proofs.conflicts.beside.Goals as goal

none : Numbered
none = record { upper = 0; relation = Priority; lower = 0 }

pub returns : goal.returns
returns c =
    let rs = c.args.rules.now in
    let p = c.args.p in
    let relation = c.args.relation in
    let q = c.args.q in
    let P : Rule → Type 0 = λ r. Relates r p relation q in
    let found =
    cases_from_any _ _ _ (λ x. Relates (rule x) p relation q) (λ x. ¬ Relates (rule x) p relation q) c.any.ensures.ran (YieldsList-from_slice rs c.iter.ensures.rest)
    (λ x f k. search (rule_steps, tests)) (λ x f k. search (rule_steps, tests)) in
    record {
      yes = λ t.
          let k = MatchBool-at_true _ _ t found in
          beside_at (rules rs) p relation q k.0 (omega (arith, k.1, length-map rs rule)) (subst P (sym (get_or-map rule rs k.0 none no_rule k.1)) (k.2 none));
      no = λ f h.
          let k = at_beside (rules rs) p relation q h in
          let l : k.0 < length rs = omega (arith, k.1, length-map rs rule) in
          MatchBool-at_false _ _ f found k.0 none (omega arith) l (subst P (get_or-map rule rs k.0 none no_rule l) k.2);
    }
