use Rattle.std.proofs.lemmas.Result.{on_ok_weaker}
use Rattle.walk.proofs.Taking.{judged}
use Rattle.walk.proofs.input.judge_lines.Goals as goal

pub returns : goal.returns
returns g c =
    on_ok_weaker c.writeln.result (judged _ _ _ (g.R.Read.remaining c.args.input.now) _ _ _ _ c.new-session.ensures c.in_ok-read_lines.ensures c.count-count.ensures)
    c.writeln.ensures.bytes
