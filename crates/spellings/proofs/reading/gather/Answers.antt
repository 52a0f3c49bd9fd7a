use Rattle.std.proofs.Common.{◌≡◌, [], ◌∷◌, ◌++◌, length, Err, sym, refl, ap, ◌∙◌, subst, arith}
use Rattle.std.proofs.lemmas.List.{length_push}
use Rattle.std.proofs.lemmas.Result.{err_from_is_err_and}
use Rattle.grammar.specs.Bytes.{items}
use Rattle.syntax.specs.Model.{symbol}
use Rattle.file_model.specs.Spelled.{RightSide}
use Rattle.spellings.specs.Model.{words}
use Rattle.spellings.specs.Reading.{Gathers}
use Rattle.spellings.proofs.Gathering.{right_push, undeclared_last, fault_more}
use Rattle.spellings.proofs.reading.gather.Goals as goal

pub returns-in_default : goal.returns-in_default
returns-in_default c ss g = undeclared_last (words c.args.spellings.now) ss (symbol c.args.written.now) c.in_default.ensures

pub returns-in_err-right : goal.returns-in_err-right
returns-in_err-right c ss g =
    let ws = words c.args.spellings.now in
    let p = err_from_is_err_and c.from_residual.result c.from_residual.ensures.1 in
    subst (Gathers ws (ss ++ symbol c.args.written.now ∷ [])) (sym (p.1 ∙ ap Err p.2))
    (fault_more ws ss (symbol c.args.written.now) c.in-Some.symbol _ c.in-Some.ensures (subst (Gathers ws ss) c.in_err-right.was g))

pub returns-then-is_full : goal.returns-then-is_full
returns-then-is_full c ss g =
    let ws = words c.args.spellings.now in
    let right = items c.in_ok-right.right in
    let kept : RightSide ws ss right = subst (Gathers ws ss) c.in_ok-right.was g in
    let full : length right ≡ 6 = c.if-is_full.ensures.full.0 refl in
    let n = length_push right c.in-Some.symbol in
    (right ++ c.in-Some.symbol ∷ [], right_push ws ss right (symbol c.args.written.now) c.in-Some.symbol kept c.in-Some.ensures, omega arith)

pub returns : goal.returns
returns c ss g =
    let ws = words c.args.spellings.now in
    let right = items c.in_ok-right.right in
    let kept : RightSide ws ss right = subst (Gathers ws ss) c.in_ok-right.was g in
    subst (RightSide ws (ss ++ symbol c.args.written.now ∷ [])) (sym c.push.ensures)
    (right_push ws ss right (symbol c.args.written.now) c.in-Some.symbol kept c.in-Some.ensures)
