use Rattle.std.proofs.Common.{Err, refl, ap, ◌∙◌}
use Rattle.std.proofs.lemmas.Result.{err_from_is_err_and}
use Rattle.clients.proofs.Calls.{never}
use Rattle.clients.proofs.Putting.{all_stand, all_taken, all_short, short_refused}
use Rattle.clients.proofs.Answering.{lists_sentence, list_stands, list_only}
use Rattle.clients.proofs.lines.list_words.Goals as goal

pub returns-in_err-put_words : goal.returns-in_err-put_words
returns-in_err-put_words c =
    let o = c.open-reading.ensures in
    let p = err_from_is_err_and c.from_residual.result c.from_residual.ensures.1 in
    let put = c.put_words.ensures in
    let was = c.in_err-put_words.was in
    record {
      listed = λ xs l z h room. absurd (never _ _ _ (all_taken _ _ _ _ o.opened o.grammar _ _ put l (lists_sentence _ _ xs h) z) was);
      only = λ n l h. absurd (never _ _ _ h p.1);
      short = λ n. (p.1 ∙ ap Err (p.2 ∙ short_refused _ _ _ _ o.opened o.grammar _ _ _ put n was), refl);
    }

pub returns : goal.returns
returns c =
    let o = c.open-reading.ensures in
    let put = c.in_ok-put_words.ensures in
    let listed = c.list.ensures in
    record {
      listed = λ xs l z h room. list_stands _ _ _ (all_stand _ _ _ _ o.opened o.grammar _ put l) _ _ _ listed xs h room;
      only = λ n l h. list_only _ _ _ (all_stand _ _ _ _ o.opened o.grammar _ put l) _ _ _ listed n h;
      short = λ n. listed.short (all_short _ _ _ _ o.opened o.grammar _ _ put n);
    }
