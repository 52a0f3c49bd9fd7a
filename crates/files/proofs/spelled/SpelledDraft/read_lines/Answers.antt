use Rattle.std.proofs.Common.{ℕ, length, sym, ap, subst, add-one, arith}
use Rattle.std.proofs.lemmas.Bool.{eqb-true, eqb-false}
use Rattle.file_model.specs.Files.{ReadsFrom, reads_cut, reads_on, reads_fault}
use Rattle.files.specs.Model.{model}
use Rattle.files.proofs.TextLines.{empty_ends, behind_shorter}
use Rattle.files.proofs.spelled.SpelledDraft.read_lines.Goals as goal

pub returns-in_default : goal.returns-in_default
returns-in_default c =
    rw c.in_file.ensures
    (c.loop-rest.invariant.1 _ _ (reads_cut (λ e. eqb-false _ 0 (sym c.loop-rest-test.ensures) (ap length e)) c.in_default.ensures))

pub returns-in-Err : goal.returns-in-Err
returns-in-Err c =
    let k = c.in-Some.ensures in
    c.loop-rest.invariant.1 _ _ (reads_fault (record { free = k.0; is = k.1 }) c.in-Err.ensures)

pub loop-rest-preserved : goal.loop-rest-preserved
loop-rest-preserved c =
    let k = c.in-Some.ensures in
    let inv = c.loop-rest.invariant in (
      omega (arith, inv.0, behind_shorter _ _ _ k.1),
      λ r t h.
          inv.1 r t
          (reads_on (record { free = k.0; is = k.1 }) c.in_default-read_line.ensures
          (subst (λ (n : ℕ). ReadsFrom n (model c.read_line.new.self) c.in-Some.behind.now r t) (add-one c.loop-rest.line) h)),
    )

pub returns : goal.returns
returns c = c.loop-rest.invariant.1 _ _ (empty_ends _ _ _ (eqb-true _ 0 (sym c.loop-rest-test.ensures)))
