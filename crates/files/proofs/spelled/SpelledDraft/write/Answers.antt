use Rattle.std.proofs.Common.{ℕ, List, Ok, Err, Result, sym, ap, ◌∙◌, subst}
use Rattle.std.proofs.lemmas.Result.{err_from_is_err_and}
use Rattle.grammar.specs.declared.refusals.FileRefusal.{FileRefusal}
use Rattle.draft.proofs.Accepting.{well_formed}
use Rattle.file_model.specs.Files.{WritesFile}
use Rattle.file_model.proofs.Back.{writes_back}
use Rattle.spellings.proofs.Words.{sound_spellings}
use Rattle.files.specs.Model.{model}
use Rattle.files.proofs.Written.{writes_all, writes_front}
use Rattle.files.proofs.spelled.SpelledDraft.write.Goals as goal

pub returns-in_err-put_lines-clause-written : goal.returns-in_err-put_lines-clause-written
returns-in_err-put_lines-clause-written c =
    let s = model c.args.self.now in
    let out = c.args.out.now in
    let every = c.is_spelled.ensures.yes c.if-not-is_spelled.false in
    let lent = c.in_err-put_lines.out-1-own.given in
    let y = c.in_err-put_lines.ensures in
    let p = err_from_is_err_and c.from_residual.result c.from_residual.ensures.1 in
    subst (λ (r : Result ℕ FileRefusal). WritesFile s out r lent.0) (sym (p.1 ∙ ap Err p.2))
    (subst (λ (a : List ℕ). WritesFile s out (Err c.in_err-put_lines.field-0.0) a) (sym (lent.1.1 (sym (y.1.lent ∙ c.new-writer.ensures.lent))))
    (writes_front s every out c.new-writer.result c.put_lines.new.out c.in_err-put_lines.field-0.0 c.new-writer.ensures.text c.new-writer.ensures.start y))

pub returns : goal.returns
returns c =
    let s = model c.args.self.now in
    let out = c.args.out.now in
    let every = c.is_spelled.ensures.yes c.if-not-is_spelled.false in
    let lent = c.out-2-1.given in
    let y = c.in_ok-put_lines.ensures in
    let n = c.written.result in
    let done : WritesFile s out (Ok n) lent.0 =
    subst (λ (a : List ℕ). WritesFile s out (Ok n) a) (sym (lent.1.1 (sym (y.0.lent ∙ c.new-writer.ensures.lent))))
    (writes_all s every out c.new-writer.result c.put_lines.new.out n c.new-writer.ensures.text c.new-writer.ensures.start c.written.ensures y) in
    record {
      written = done;
      back = writes_back s (record { draft = well_formed c.args.self.now.draft; spellings = sound_spellings c.args.self.now.spellings }) out (Ok n) lent.0 done;
    }
