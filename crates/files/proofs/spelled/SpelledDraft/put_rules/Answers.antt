use Rattle.std.proofs.Common.{Ok, arith}
use Rattle.grammar.specs.Grammar.{no_rule}
use Rattle.grammar.specs.Model.{rule}
use Rattle.file_model.specs.Files.{rule_form}
use Rattle.files.specs.Model.{model}
use Rattle.spellings.proofs.Items.{as_many, item_at}
use Rattle.file_lines.proofs.Written.{writes_none, turned, stopped, line}
use Rattle.files.proofs.spelled.SpelledDraft.put_rules.Goals as goal

pub loop-rule-init : goal.loop-rule-init
loop-rule-init c = writes_none c.args.out.now

pub returns-in_err-put_rule_line : goal.returns-in_err-put_rule_line
returns-in_err-put_rule_line c =
    let rs = (model c.args.self.now).draft.rules in
    let i = c.loop-rule.rule-index in
    let m = c.rules-rule-items.ensures.rules in
    stopped rule_form line rs c.args.out.now _ _ c.from_residual.ensures.1 c.loop-rule.out c.put_rule_line.new.out i no_rule _
    (omega (arith, as_many rule _ rs m))
    (item_at rule _ rs m i _ no_rule c.loop-rule-test.true)
    c.loop-rule.invariant
    c.in_err-put_rule_line.ensures

pub loop-rule-preserved : goal.loop-rule-preserved
loop-rule-preserved c =
    let rs = (model c.args.self.now).draft.rules in
    let i = c.loop-rule.rule-index in
    let m = c.rules-rule-items.ensures.rules in
    turned rule_form line rs c.args.out.now c.loop-rule.out c.put_rule_line.new.out i no_rule _ (Ok tt)
    (omega (arith, as_many rule _ rs m))
    (item_at rule _ rs m i _ no_rule c.loop-rule-test.true)
    c.loop-rule.invariant
    c.in_ok-put_rule_line.ensures
