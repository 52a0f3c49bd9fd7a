use Rattle.std.proofs.Common.{◌≡◌, ap, ◌∙◌, subst, arith, below_more}
use Rattle.std.proofs.lemmas.Bool.{true≢false, false≢true}
use Rattle.grammar.specs.Grammar.{Production, no_production, right_at}
use Rattle.grammar.specs.Model.{production}
use Rattle.files.specs.Model.{model}
use Rattle.spellings.specs.Writing.{AllSpelled, SomeUnspelled}
use Rattle.spellings.proofs.Items.{as_many, item_at}
use Rattle.files.proofs.spelled.SpelledDraft.is_spelled.Goals as goal

pub returns-then-not-spells : goal.returns-then-not-spells
returns-then-not-spells c =
    let s = model c.args.self.now in
    let ps = s.draft.productions in
    let i = c.loop-production.production-index in
    let m = c.productions-production-items.ensures in
    let e : c.right.result.now ≡ right_at ps i =
    c.right.ensures ∙ ap (λ (p : Production). p.right) (ap production c.production-item.is ∙ item_at production _ ps m i _ no_production c.loop-production-test.true) in
    let f : SomeUnspelled s.spellings (right_at ps i) = subst (SomeUnspelled s.spellings) e (c.spells.ensures.no c.if-not-spells.true) in
    record { yes = λ t. absurd (false≢true t); no = λ _. (i, f.0, omega (arith, as_many production _ ps m), f.1, f.2) }

pub loop-production-preserved : goal.loop-production-preserved
loop-production-preserved c =
    let s = model c.args.self.now in
    let ps = s.draft.productions in
    let i = c.loop-production.production-index in
    let m = c.productions-production-items.ensures in
    let e : c.right.result.now ≡ right_at ps i =
    c.right.ensures ∙ ap (λ (p : Production). p.right) (ap production c.production-item.is ∙ item_at production _ ps m i _ no_production c.loop-production-test.true) in
    below_more _ _ c.loop-production.invariant (subst (AllSpelled s.spellings) e (c.spells.ensures.yes c.if-not-spells.false))

pub returns : goal.returns
returns c =
    let ps = (model c.args.self.now).draft.productions in
    let m = c.productions-production-items.ensures in
    record {
      yes = λ _ u. let low = c.loop-production.invariant u.0 (omega (arith, as_many production _ ps m, u.2)) u.1 u.3 in omega (arith, low, u.4);
      no = λ t. absurd (true≢false t);
    }
