use Rattle.std.proofs.Common.{ℕ, List, ◌∷◌, length, drop, Ok, Err, sym, ap, ◌∙◌, subst}
use Rattle.std.proofs.lemmas.Result.{err_from_is_err_and}
use Rattle.spellings.specs.Model.{words}
use Rattle.lines.specs.Cuts.{Cuts}
use Rattle.lines.specs.Model.{word_of, end_of}
use Rattle.lines.specs.Lines.{PutsLine, too_long, by_words, all_put, one_refused, one_put}
use Rattle.lines.proofs.Cutting.{some_cut}
use Rattle.lines.proofs.Putting.{line_kinds, line_leaves, still_stands}
use Rattle.lines.proofs.Nexts.{moved_on}
use Rattle.lines.proofs.put_line.Goals as goal

pub returns-then-line-gt-LINE_BYTES : goal.returns-then-line-gt-LINE_BYTES
returns-then-line-gt-LINE_BYTES c =
    let p = subst (λ f. PutsLine (words c.args.spellings.now) c.args.line.now c.args.reading.now (Err f) c.args.reading.now) (sym c.unknown_word.ensures) (too_long c.if-line-gt-LINE_BYTES.true) in
    record { put = p; leaves = line_leaves p; kinds = line_kinds p; stands = still_stands (line_kinds p) }

pub loop-word-init : goal.loop-word-init
loop-word-init c ws a q cut puts = (ws, moved_on c.of-word-items.result c.of-word-items.ensures (subst (λ w. Cuts w.from (drop w.from w.line.now) ws) c.into_iter-word-iterator.ensures.into_iter_gives cut), puts)

pub returns-in_err-put_word : goal.returns-in_err-put_word
returns-in_err-put_word c =
    let line = c.loop-word.word-iterator.line.now in
    let end = end_of (c.in-Some.word, c.in-Some.place) in
    let rest = some_cut end (drop end line) in
    let ws = (word_of c.in-Some.word, c.in-Some.place) ∷ rest.0 in
    let x = c.loop-word.invariant ws (Err c.in_err-put_word.field-0.0) c.put_word.new.reading (c.in-Some.ensures.steps.0 rest.0 rest.1) (one_refused {q = c.put_word.new.reading} {w = (word_of c.in-Some.word, c.in-Some.place)} c.in_err-put_word.ensures) in
    let e = err_from_is_err_and c.from_residual.result c.from_residual.ensures.1 in
    let p = subst (λ a. PutsLine (words c.args.spellings.now) c.args.line.now c.args.reading.now a c.put_word.new.reading) (sym (e.1 ∙ ap Err e.2)) (by_words c.if-line-gt-LINE_BYTES.false x.1 x.2) in
    record { put = p; leaves = line_leaves p; kinds = line_kinds p; stands = still_stands (line_kinds p) }

pub loop-word-preserved : goal.loop-word-preserved
loop-word-preserved c ws a q cut puts =
    c.loop-word.invariant _ a q (c.in-Some.ensures.steps.0 ws (moved_on c.next.new.self c.in-Some.ensures.steps.1 cut)) (one_put {q = c.put_word.new.reading} {w = (word_of c.in-Some.word, c.in-Some.place)} c.in_ok-put_word.ensures puts)

pub returns : goal.returns
returns c =
    let x = c.loop-word.invariant _ _ _ c.in-None.ensures.steps.0 all_put in
    let p = subst (λ (us : List ℕ). PutsLine (words c.args.spellings.now) c.args.line.now c.args.reading.now (Ok (length us)) c.loop-word.reading) (sym c.words.ensures) (by_words c.if-line-gt-LINE_BYTES.false x.1 x.2) in
    record { put = p; leaves = line_leaves p; kinds = line_kinds p; stands = still_stands (line_kinds p) }
