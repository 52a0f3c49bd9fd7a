use Rattle.std.proofs.Common.{length, Err, sym, refl, ap, ◌∙◌, subst, inl, inr, ⊎_elim, arith}
use Rattle.std.proofs.lemmas.List.{length-map}
use Rattle.std.proofs.lemmas.Bool.{eqb-true, eqb-false}
use Rattle.std.proofs.lemmas.Result.{err_from_is_err_and}
use Rattle.grammar.specs.Model.{rule}
use Rattle.draft.specs.Calls.{Names, rule_repeated, rules_full}
use Rattle.draft.specs.Model.{model}
use Rattle.draft.proofs.Causes.{below_repeat, below_full, rule_none, names_refused}
use Rattle.draft.proofs.draft.Draft.add_rule.Goals as goal

pub returns-then-has_rule : goal.returns-then-has_rule
returns-then-has_rule c =
    let g = model c.args.self.now in
    let up = c.in_ok-named.ensures in
    let low = c.in_ok-named-2.ensures in (
      rule_repeated (rw (sym up.0, sym low.0) (c.if-has_rule.ensures.yes refl)),
      rule_none g c.args.upper c.args.relation c.args.lower 4 (below_repeat g c.args.upper c.args.relation c.args.lower),
      refl,
    )

pub returns-in_err-named : goal.returns-in_err-named
returns-in_err-named c =
    let r = err_from_is_err_and c.from_residual.result c.from_residual.ensures.1 in
    let none = c.in_err-named.ensures in
    names_refused (model c.args.self.now) c.args.upper c.args.relation c.args.lower c.args.self.now.named (inl none.1) _ (r.1 ∙ ap Err (r.2 ∙ none.0))

pub returns-in_err-named-2 : goal.returns-in_err-named-2
returns-in_err-named-2 c =
    let r = err_from_is_err_and c.from_residual-in_err-named-2.result c.from_residual-in_err-named-2.ensures.1 in
    let none = c.in_err-named-2.ensures in
    names_refused (model c.args.self.now) c.args.upper c.args.relation c.args.lower c.args.self.now.named (inr none.1) _ (r.1 ∙ ap Err (r.2 ∙ none.0))

pub returns-then-is_full : goal.returns-then-is_full
returns-then-is_full c =
    let d = c.args.self.now in
    let g = model d in
    let up = c.in_ok-named.ensures in
    let low = c.in_ok-named-2.ensures in (
      rules_full (omega (arith, length-map d.rules.items rule, eqb-true _ _ (sym c.is_full.ensures.value ∙ c.if-is_full.true))),
      rule_none g c.args.upper c.args.relation c.args.lower 7
          (below_full g c.args.upper c.args.relation c.args.lower (rw (sym up.0, sym low.0) (c.if-has_rule.ensures.no refl))
          (λ o. ⊎_elim (λ no. no (subst (Names (length g.productions)) up.0 up.1)) (λ no. no (subst (Names (length g.productions)) low.0 low.1)) o)),
      refl,
    )

pub accept_rule-requires : goal.accept_rule-requires
accept_rule-requires c =
    let d = c.args.self.now in
    let up = c.in_ok-named.ensures in
    let low = c.in_ok-named-2.ensures in
    record {
      upper = up.1;
      lower = low.1;
      room = let n = eqb-false _ _ (sym c.is_full.ensures.value ∙ c.if-is_full.false) in omega (arith, length-map d.rules.items rule, c.is_full.ensures.fits);
      fresh = c.if-has_rule.ensures.no refl;
    }
