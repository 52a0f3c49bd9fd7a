use Rattle.std.proofs.Common.{Ok, Err, refl, ap, ◌∙◌, subst}
use Rattle.std.proofs.lemmas.Result.{err_from_is_err_and}
use Rattle.syntax.specs.Syntax.{rule_line, HasForm}
use Rattle.file_lines.specs.Reading.{ReadsRule}
use Rattle.files.specs.Reading.{as_form}
use Rattle.files.proofs.spelled.SpelledDraft.read_rule_line.Goals as goal

pub returns-in_err-add_rule : goal.returns-in_err-add_rule
returns-in_err-add_rule c =
    let line = c.args.line.now in
    let k = c.in_ok-upper in
    let f : HasForm line (rule_line k.upper k.relation k.lower) = subst (ReadsRule line) k.ensures.ok_part c.read_rule.ensures in
    let p = err_from_is_err_and c.from_residual-in_err-add_rule.result c.from_residual-in_err-add_rule.ensures.1 in
    as_form (rule_line k.upper k.relation k.lower) tt f (Err c.in_err-add_rule.field-0.0, c.in_err-add_rule.ensures, refl, p.1 ∙ ap Err p.2)

pub returns : goal.returns
returns c =
    let line = c.args.line.now in
    let k = c.in_ok-upper in
    let f : HasForm line (rule_line k.upper k.relation k.lower) = subst (ReadsRule line) k.ensures.ok_part c.read_rule.ensures in
    as_form (rule_line k.upper k.relation k.lower) tt f (Ok c.in_ok-add_rule.field-0, c.in_ok-add_rule.ensures, refl, refl)
