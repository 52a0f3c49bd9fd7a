use Rattle.std.proofs.Common.{◌≡◌, ℕ, Bool, true, Ok, Err, Result, sym, ap, ◌∙◌, subst, rules}
use Rattle.std.specs.Result.{MatchResult, IsErrAnd}
use Rattle.std.proofs.lemmas.Result.{err_from_is_err_and}
use Rattle.grammar.specs.declared.refusals.ReadingRefusal.{ReadingRefusal}
use Rattle.grammar.specs.declared.refusals.Refusal.TheVariants.{Reading as Layer}
use Rattle.reading.specs.declared.reading.Reading.{Reading}
use Rattle.reading.specs.Readings.{Long, Marks, Looked, cells}
use Rattle.lines.specs.declared.fault.LineFault.{LineFault}
use Rattle.lines.specs.Lines.{fault}
use Rattle.lines.proofs.Mapping.{ok_mapped, err_mapped}
use Rattle.walk.specs.declared.scores.Scores.{Scores}
use Rattle.walk.specs.Verdicts.{BothScores, WordsJudged}
use Rattle.walk.proofs.Verdicts.{judged_short, judged_none, judged_unscored, judged_scored}
use Rattle.walk.proofs.judging.judge_words.Goals as goal

-- what a sentence's scores are, or why it has none
judged :
    (r : Reading) (end : ℕ) (k : Bool × ℕ) (P : ReadingRefusal → LineFault → Type 0) →
    ((e : ReadingRefusal) (f : LineFault) → P e f → f ≡ fault (Layer e) 0) →
    Looked r (Ok k) →
    (Long (cells r) → Marks r) →
    k.0 ≡ true →
    (a : Result Scores ReadingRefusal) (b : Result Scores LineFault) →
    BothScores r a →
    MatchResult a (λ x. b ≡ Ok x) (λ e. IsErrAnd b (P e)) →
    WordsJudged r end b
judged r end k P told l marks t (Ok x) b s h = subst (WordsJudged r end) (sym h) (judged_scored r end k x l marks t s)
judged r end k P told l marks t (Err e) b s h =
    let p = err_from_is_err_and b h in
    subst (WordsJudged r end) (sym (p.1 ∙ ap Err (told e p.0 p.2))) (judged_unscored r end k e l marks t s)

pub returns-in_err-sentence : goal.returns-in_err-sentence
returns-in_err-sentence c marks =
    let r = c.args.reading.now in
    let e = err_from_is_err_and c.from_residual.result c.from_residual.ensures.1 in
    let m = err_mapped c.map_err.result _ c.look.result _ c.map_err.ensures.cases c.in_err-sentence.was in
    let told : c.in_err-sentence.field-0.0 ≡ fault (Layer m.0) 0 = search rules in
    subst (WordsJudged r c.args.end) (sym (e.1 ∙ ap Err (e.2 ∙ told))) (judged_short r c.args.end m.0 (subst (Looked r) m.1 c.look.ensures))

pub returns-then-not-sentence : goal.returns-then-not-sentence
returns-then-not-sentence c marks =
    let r = c.args.reading.now in
    let m = ok_mapped c.map_err.result _ c.look.result _ c.map_err.ensures.cases c.in_ok-sentence.was in
    rw c.of_words.ensures (judged_none r c.args.end (c.in_ok-sentence.sentence, c.in_ok-sentence.field-0-1) (subst (Looked r) m c.look.ensures) marks c.if-not-sentence.true)

pub returns : goal.returns
returns c marks =
    let r = c.args.reading.now in
    let m = ok_mapped c.map_err.result _ c.look.result _ c.map_err.ensures.cases c.in_ok-sentence.was in
    judged r c.args.end (c.in_ok-sentence.sentence, c.in_ok-sentence.field-0-1) _ (λ e f called. search rules) (subst (Looked r) m c.look.ensures) marks c.if-not-sentence.false c.scores.result c.map_err-2.result
    c.scores.ensures c.map_err-2.ensures.cases
