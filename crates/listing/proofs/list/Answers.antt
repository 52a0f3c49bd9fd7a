use Rattle.std.proofs.Common.{◌≡◌, ◌∙◌, ap}
use Rattle.std.proofs.lemmas.Result.{err_from_is_err_and}
use Rattle.std.specs.Option.{ok_or}
use Rattle.grammar.specs.declared.refusals.ReadingRefusal.TheVariants.{NoSentence}
use Rattle.chart.proofs.Fronts.{front_charted}
use Rattle.listing.proofs.Roots.{none_listed, some_listed}
use Rattle.listing.proofs.list.Goals as goal

pub returns-in_err-root-clause-listed : goal.returns-in_err-root-clause-listed
returns-in_err-root-clause-listed c g means same formed charted =
    let lent = c.in-Some.ensures.cases in
    let front = front_charted c.args.cells.now c.in-Some.cells.now lent.enough lent.same c.args.tables.now g c.args.words.now means c.requires.few charted in
    let none = c.in_err-root.ensures.ok_part in
    let v = c.in_err-root.ensures.value ∙ ap (λ o. ok_or o NoSentence) none in
    let is : c.in_err-root.field-0.0 ≡ NoSentence = cc in
    let r = err_from_is_err_and c.from_residual.result c.from_residual.ensures.1 in
    rw (r.1, r.2, is)
    (none_listed g (record { means = means; same = same; formed = formed; charted = front }) c.root.ensures c.args.records.now none)

pub returns-clause-listed : goal.returns-clause-listed
returns-clause-listed c g means same formed charted =
    let lent = c.in-Some.ensures.cases in
    let front = front_charted c.args.cells.now c.in-Some.cells.now lent.enough lent.same c.args.tables.now g c.args.words.now means c.requires.few charted in
    some_listed g (record { means = means; same = same; formed = formed; charted = front }) c.root.ensures c.in_ok-root.root c.args.records.now
    c.list.new.records c.list.result c.in_ok-root.ensures.ok_part (c.list.ensures.listed g)
