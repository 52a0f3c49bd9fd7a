use Rattle.std.proofs.Common.{ℕ, List, ◌∷◌, Some, Ok, Err, sym, refl, ap, ◌∙◌, subst}
use Rattle.std.proofs.lemmas.Result.{err_from_is_err_and}
use Rattle.syntax.specs.Syntax.{word_line}
use Rattle.syntax.specs.Model.{spelling}
use Rattle.syntax.specs.Reading.{ReadsSpelling}
use Rattle.syntax.proofs.Lines.{render_word}
use Rattle.files.specs.Reading.{as_form}
use Rattle.files.proofs.spelled.SpelledDraft.read_word.Goals as goal

pub returns-in_err-declare : goal.returns-in_err-declare
returns-in_err-declare c =
    let part = c.args.part.now in
    let word = c.in_ok-word.word in
    let w : ReadsSpelling part (Some word) = subst (ReadsSpelling part) c.in_ok-word.ensures.ok_part c.read_spelling.ensures in
    let p = err_from_is_err_and c.from_residual-in_err-declare.result c.from_residual-in_err-declare.ensures.1 in
    as_form (word_line (spelling word)) tt
    (w.0, ap (λ (x : List ℕ). 119 ∷ 111 ∷ 114 ∷ 100 ∷ 32 ∷ x) w.1 ∙ sym (render_word (spelling word)))
    (Err c.in_err-declare.field-0.0, c.in_err-declare.ensures, refl, p.1 ∙ ap Err p.2)

pub returns : goal.returns
returns c =
    let part = c.args.part.now in
    let word = c.in_ok-word.word in
    let w : ReadsSpelling part (Some word) = subst (ReadsSpelling part) c.in_ok-word.ensures.ok_part c.read_spelling.ensures in
    as_form (word_line (spelling word)) tt
    (w.0, ap (λ (x : List ℕ). 119 ∷ 111 ∷ 114 ∷ 100 ∷ 32 ∷ x) w.1 ∙ sym (render_word (spelling word)))
    (Ok c.in_ok-declare.field-0, c.in_ok-declare.ensures, refl, refl)
