use Rattle.std.proofs.Common.{◌≡◌, ◌≢◌, List, subst, arith, rules, tests}
use Rattle.std.proofs.lemmas.List.{length-map}
use Rattle.std.proofs.lemmas.Bool.{MatchBool-at_true, MatchBool-at_false}
use Rattle.std.proofs.lemmas.Iterator.{cases_from_any, YieldsList-from_slice}
use Rattle.grammar.specs.declared.production.Production.{Production as Stored}
use Rattle.grammar.specs.Grammar.{Production, no_production}
use Rattle.grammar.specs.Model.{production}
use Rattle.draft.specs.Calls.{RepeatsSides}
use Rattle.draft.proofs.Tables.{one_stands, none_stands}
use Rattle.draft.proofs.draft.Draft.has_sides.Goals as goal

pub returns : goal.returns
returns c =
    let ps = c.productions.result.now in
    let p = production c.args.other.now in
    let found =
    cases_from_any _ _ _ (λ (q : Stored). ((production q).left ≡ p.left) × ((production q).right ≡ p.right)) (λ (q : Stored). (production q).left ≡ p.left → (production q).right ≢ p.right) c.any.ensures.ran (YieldsList-from_slice ps cc)
    (λ x q k. search (rules, tests)) (λ x q k. search (rules, tests)) in
    record {
      yes = λ t.
          subst (λ (qs : List Production). RepeatsSides qs p.left p.right) c.productions.ensures
          (let k = MatchBool-at_true _ _ t found in
          let same = one_stands production (λ (q : Production). (q.left ≡ p.left) × (q.right ≡ p.right)) ps no_production k.0 c.args.other.now k.1 (k.2 c.args.other.now) in
          (k.0, omega (arith, length-map ps production, k.1), same.0, same.1));
      no = λ f.
          subst (λ (qs : List Production). ¬ RepeatsSides qs p.left p.right) c.productions.ensures
          (λ s. none_stands production (λ (q : Production). (q.left ≡ p.left) × (q.right ≡ p.right)) ps no_production (λ k d l e. MatchBool-at_false _ _ f found k d (omega arith) l e.0 e.1) s.0 s.1 (s.2, s.3));
    }
