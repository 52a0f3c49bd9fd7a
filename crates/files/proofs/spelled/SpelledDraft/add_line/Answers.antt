use Rattle.std.proofs.Common.{Err, Result, sym, ap, ◌∙◌, subst}
use Rattle.std.proofs.lemmas.Result.{err_from_is_err_and}
use Rattle.grammar.specs.declared.refusals.Refusal.{Refusal}
use Rattle.syntax.specs.Syntax.{production_line}
use Rattle.file_model.specs.Files.{Does}
use Rattle.spellings.specs.Model.{words}
use Rattle.spellings.specs.Reading.{Gathers}
use Rattle.files.specs.Model.{model}
use Rattle.files.proofs.Faults.{line_at_fault}
use Rattle.files.proofs.spelled.SpelledDraft.add_line.Goals as goal

pub returns-in_err-symbols : goal.returns-in_err-symbols
returns-in_err-symbols c ss v g =
    let s = c.args.self.now in
    let p = err_from_is_err_and c.from_residual.result c.from_residual.ensures.1 in
    subst (λ (r : Result (Unit {0}) Refusal). Does (model s) (production_line c.args.left ss c.args.priced.price) r (model s)) (sym (p.1 ∙ ap Err p.2))
    (line_at_fault s ss c.args.left c.args.priced.price c.in_err-symbols.field-0.0 c.requires v (subst (Gathers (words s.spellings) ss) c.in_err-symbols.was g))
