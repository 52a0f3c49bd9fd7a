use Rattle.std.proofs.Common.{◌≡◌, ◌<◌, length, Ok, sym, ap, ◌∙◌, subst, arith}
use Rattle.grammar.specs.Grammar.{Production, no_production, production_at}
use Rattle.grammar.specs.Model.{production}
use Rattle.file_model.specs.Files.{production_form}
use Rattle.files.specs.Model.{model}
use Rattle.spellings.specs.Writing.{AllSpelled}
use Rattle.spellings.proofs.Items.{as_many, item_at}
use Rattle.file_lines.proofs.Written.{writes_none, turned, stopped, line}
use Rattle.files.proofs.Written.{right_spelled}
use Rattle.files.proofs.spelled.SpelledDraft.put_productions.Goals as goal

pub loop-production-init : goal.loop-production-init
loop-production-init c = writes_none c.args.out.now

pub put_production_line-requires-clause-spelled : goal.put_production_line-requires-clause-spelled
put_production_line-requires-clause-spelled c =
    let s = model c.args.self.now in
    let ps = s.draft.productions in
    let i = c.loop-production.production-index in
    let m = c.productions-production-items.ensures in
    let l : i < length ps = omega (arith, as_many production _ ps m) in
    let e : production c.production-item.result ≡ production_at ps i = ap production c.production-item.is ∙ item_at production _ ps m i _ no_production c.loop-production-test.true in
    subst (λ (p : Production). AllSpelled s.spellings p.right) (sym e) (right_spelled s c.requires i l)

pub returns-in_err-put_production_line : goal.returns-in_err-put_production_line
returns-in_err-put_production_line c =
    let s = model c.args.self.now in
    let ps = s.draft.productions in
    let i = c.loop-production.production-index in
    let m = c.productions-production-items.ensures in
    stopped (production_form s.spellings) line ps c.args.out.now _ _ c.from_residual.ensures.1 c.loop-production.out c.put_production_line.new.out i no_production (production c.production-item.result)
    (omega (arith, as_many production _ ps m))
    (ap production c.production-item.is ∙ item_at production _ ps m i _ no_production c.loop-production-test.true)
    c.loop-production.invariant
    c.in_err-put_production_line.ensures

pub loop-production-preserved : goal.loop-production-preserved
loop-production-preserved c =
    let s = model c.args.self.now in
    let ps = s.draft.productions in
    let i = c.loop-production.production-index in
    let m = c.productions-production-items.ensures in
    turned (production_form s.spellings) line ps c.args.out.now c.loop-production.out c.put_production_line.new.out i no_production (production c.production-item.result) (Ok tt)
    (omega (arith, as_many production _ ps m))
    (ap production c.production-item.is ∙ item_at production _ ps m i _ no_production c.loop-production-test.true)
    c.loop-production.invariant
    c.in_ok-put_production_line.ensures
