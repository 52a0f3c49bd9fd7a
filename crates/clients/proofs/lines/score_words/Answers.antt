use Rattle.std.proofs.Common.{Ok, Err, ap, ◌∙◌}
use Rattle.std.proofs.lemmas.Result.{err_from_is_err_and}
use Rattle.clients.proofs.Calls.{never}
use Rattle.clients.proofs.Putting.{all_stand, all_taken, all_short, short_refused}
use Rattle.clients.proofs.Answering.{score_stands, score_only, score_short}
use Rattle.clients.proofs.lines.score_words.Goals as goal

pub returns-in_err-put_words : goal.returns-in_err-put_words
returns-in_err-put_words g c =
    let o = c.open-reading.ensures in
    let p = err_from_is_err_and c.from_residual.result c.from_residual.ensures.1 in
    let put = c.put_words.ensures in
    let was = c.in_err-put_words.was in
    record {
      scored = λ v l z h room d. absurd (never _ _ _ (all_taken _ _ _ _ o.opened o.grammar _ _ put l h z) was);
      only = λ v l h. absurd (never _ _ _ h p.1);
      short = λ n. p.1 ∙ ap Err (p.2 ∙ short_refused _ _ _ _ o.opened o.grammar _ _ _ put n was);
    }

pub returns : goal.returns
returns g c =
    let o = c.open-reading.ensures in
    let put = c.in_ok-put_words.ensures in
    let scored = c.score.ensures.scored in
    record {
      scored = λ v l z h room d.
          score_stands g.S.Semiring.scale c.put_words.new.reading c.args.table.now c.score.new.table g.met.S.Semiring.laws _ _
          (all_stand c.args.chart.now c.args.grammar.now c.open-reading.result c.put_words.new.reading o.opened o.grammar c.args.kinds.now put l) v room d c.score.result scored;
      only = λ v l h.
          score_only g.S.Semiring.scale c.put_words.new.reading c.args.table.now c.score.new.table _ _
          (all_stand c.args.chart.now c.args.grammar.now c.open-reading.result c.put_words.new.reading o.opened o.grammar c.args.kinds.now put l) v c.score.result h scored;
      short = λ n.
          score_short g.S.Semiring.scale c.put_words.new.reading c.args.table.now c.score.new.table
          (all_short c.args.chart.now c.args.grammar.now c.open-reading.result c.put_words.new.reading o.opened o.grammar c.args.kinds.now (Ok tt) put n) c.score.result scored;
    }
