use Rattle.std.proofs.Common.{refl}
use Rattle.std.proofs.lemmas.Result.{err_from_is_err_and}
use Rattle.walk.proofs.Verdicts.{refused_scores, long_tables}
use Rattle.walk.proofs.score_tables.ScoreTables.scores.Goals as goal

pub returns-in_err-count : goal.returns-in_err-count
returns-in_err-count c =
    let p = err_from_is_err_and c.from_residual.result c.from_residual.ensures.1 in
    refused_scores c.args.reading.now _ _ _ _ c.args.self.now.count_room p.1 p.2 c.in_err-count.ensures.refused

pub returns-in_err-price : goal.returns-in_err-price
returns-in_err-price c =
    let p = err_from_is_err_and c.from_residual-in_err-price.result c.from_residual-in_err-price.ensures.1 in
    refused_scores c.args.reading.now _ _ _ _ c.args.self.now.price_room p.1 p.2 c.in_err-price.ensures.refused

pub returns : goal.returns
returns c =
    let first = c.in_ok-count.ensures in
    let second = c.in_ok-price.ensures in (
      c.in_ok-count.count,
      c.in_ok-price.price,
      long_tables c.args.reading.now _ c.args.self.now.count_room first.refused,
      first.scored.1.0,
      second.scored.1.0,
      refl,
      refl,
    )
