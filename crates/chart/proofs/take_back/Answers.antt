use Rattle.std.proofs.Common.{◌≡◌, ◌∷◌, [], ◌++◌, length, drop, arith, rules}
use Rattle.std.proofs.lemmas.List.{length_push}
use Rattle.chart.proofs.Words.{taken_back}
use Rattle.chart.proofs.Fronts.{back_length, front_charted, charted_whole, rest_kept}
use Rattle.chart.proofs.take_back.Goals as goal

pub returns : goal.returns
returns c =
    let lent = c.in-Some.ensures.cases in
    let cells = c.args.cells.now in
    let front = c.in-Some.cells.now in
    let back = c.clear.new.cells in
    let size : length back ≡ 4802 = back_length cells front lent.enough lent.same back (search rules) in
    record {
      charted = λ t g ws a m len chart.
          charted_whole t g ws back (drop 4802 cells) m (omega arith) size
          (taken_back c.args.n front back (omega arith) c.clear.ensures t g ws a m len
          (front_charted cells front lent.enough lent.same t g (ws ++ a ∷ []) m (omega (arith, length_push ws a)) chart));
      rest = rest_kept cells back size;
    }
