use Rattle.std.proofs.Common.{ℕ, suc, List, sym, ◌∙◌, ap, refl, subst, ⊎_elim, arith}
use Rattle.std.proofs.lemmas.List.{length-map}
use Rattle.grammar.specs.declared.rule.Rule.{Rule as Numbered}
use Rattle.grammar.specs.Grammar.{Rule}
use Rattle.grammar.specs.Model.{rule}
use Rattle.grammar.specs.Order.{Above}
use Rattle.grammar.specs.Sound.{WellFormed, Ordered}
use Rattle.draft.specs.Calls.{AboveItself, RuleCause, above_itself}
use Rattle.draft.specs.Model.{model}
use Rattle.draft.specs.Stored.{grammar}
use Rattle.draft.proofs.Accepting.{well_formed, taken_back, longer_rules, grown_rules, numbers_kept, between}
use Rattle.draft.proofs.Causes.{rule_none}
use Rattle.draft.proofs.Growing.{rule_kept}
use Rattle.draft.proofs.draft.Draft.accept_rule.Goals as goal
use Rattle.draft.proofs.draft.Draft.accept_rule.Goals.{Else-above_itself}

pub above_itself-requires : goal.above_itself-requires
above_itself-requires c =
    between c.args.self.now c.args.rule c.requires.upper c.requires.lower c.as_slice.result.now (c.as_slice.ensures.value ∙ c.push.ensures.items)

pub returns-then-above_itself : goal.returns-then-above_itself
returns-then-above_itself c =
    let d = c.args.self.now in
    let x = c.args.rule in
    let h = c.if-above_itself.ensures.yes refl in (
      above_itself (h.0, subst (λ (rs : List Rule). Above rs h.0 h.0) (longer_rules d x c.requires.upper c.requires.lower _ (c.as_slice.ensures.value ∙ c.push.ensures.items)) h.1),
      rule_none (model d) x.upper x.relation x.lower 8
          (record {
            repeats = λ _. c.requires.fresh;
            names = λ _ o. ⊎_elim (λ no. no c.requires.upper) (λ no. no c.requires.lower) o;
            room = λ _ full. let r = c.requires.room in omega arith;
            above = λ l. absurd (omega arith);
          }),
      ap (λ (rs : List Numbered). grammar d.start d.productions.items rs) (taken_back d.rules.items x _ _ c.push.ensures.items c.pop.ensures.rest),
    )

-- with the rule there is still no production that has priority over itself
above_none : (c : Else-above_itself) → ¬ AboveItself (model c.args.self.now) (rule c.args.rule)
above_none c h =
    subst Ordered (longer_rules c.args.self.now c.args.rule c.requires.upper c.requires.lower _ (c.as_slice.ensures.value ∙ c.push.ensures.items)) (c.if-above_itself.ensures.no refl) h.0 h.1

kept : (c : Else-above_itself) → WellFormed (grammar c.args.self.now.start c.args.self.now.productions.items c.push.new.self.items)
kept c =
    let d = c.args.self.now in
    let x = c.args.rule in
    subst WellFormed (sym (grown_rules d x c.requires.upper c.requires.lower _ c.push.ensures.items))
    (rule_kept (model d) x.upper x.relation x.lower (well_formed d) c.requires.upper c.requires.lower (λ full. let r = c.requires.room in omega arith) c.requires.fresh (above_none c))

pub invariant_of-self-else-above_itself : goal.invariant_of-self-else-above_itself
invariant_of-self-else-above_itself c =
    let d = c.args.self.now in
    let w = kept c in
    record {
      numbers = numbers_kept d c.args.rule c.requires.upper c.requires.lower _ c.push.ensures.items;
      small = w.small;
      starts = d.starts;
      sides = w.sides;
      symbols = w.symbols;
      prices = w.prices;
      apart = w.apart;
      named = w.named;
      unrepeated = w.unrepeated;
      acyclic = w.acyclic;
      ordered = w.ordered;
    }

-- no cause applies
causes_none : (c : Else-above_itself) (n : ℕ) → ¬ RuleCause (model c.args.self.now) c.args.rule.upper c.args.rule.relation c.args.rule.lower n
causes_none c n =
    let x = c.args.rule in
    rule_none (model c.args.self.now) x.upper x.relation x.lower (suc n)
    (record {
      repeats = λ _. c.requires.fresh;
      names = λ _ o. ⊎_elim (λ no. no c.requires.upper) (λ no. no c.requires.lower) o;
      room = λ _ full. let r = c.requires.room in omega arith;
      above = λ _. above_none c;
    }) n (omega arith)

pub returns : goal.returns
returns c =
    let d = c.args.self.now in
    let x = c.args.rule in (
      causes_none c.before.before,
      (c.len.ensures.value ∙ sym (length-map c.push.new.self.items rule), grown_rules d x c.requires.upper c.requires.lower _ c.push.ensures.items),
    )
