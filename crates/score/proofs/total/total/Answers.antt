use Rattle.std.proofs.Common.{arith}
use Rattle.score.proofs.Adding.{sum_none, sum_more, sum_to}
use Rattle.score.proofs.total.total.Goals as goal

pub loop-k-init : goal.loop-k-init
loop-k-init g c f t = sum_none g.S.Semiring.scale f c.none-sum.result c.none-sum.ensures

pub loop-k-preserved : goal.loop-k-preserved
loop-k-preserved g c f t =
    let k = c.loop-k.k in
    sum_more g.S.Semiring.scale f k c.loop-k.sum c.part.result c.plus-sum.result c.plus-sum.ensures (c.loop-k.invariant f t)
    (t k c.part.result c.loop-k-test.true c.part.ensures)

pub returns : goal.returns
returns g c f t =
    sum_to g.S.Semiring.scale f c.loop-k.k c.args.count c.loop-k.sum (c.loop-k.invariant f t) (omega (arith, c.loop-k-test.false, c.loop-k.auto.k-end))
