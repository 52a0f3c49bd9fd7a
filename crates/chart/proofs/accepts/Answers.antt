use Rattle.std.proofs.Common.{arith}
use Rattle.theory.specs.Claims.{Accepted}
use Rattle.chart.proofs.Fronts.{where_front}
use Rattle.chart.proofs.accepts.Goals as goal

pub returns-clause-yes : goal.returns-clause-yes
returns-clause-yes c t =
    let lent = c.in-Some.ensures.cases in
    where_front c.args.cells.now c.in-Some.cells.now lent.enough lent.same c.args.t.now c.args.n (omega arith) Accepted (c.is_accepted.ensures.yes t)

pub returns-clause-no : goal.returns-clause-no
returns-clause-no c f =
    let lent = c.in-Some.ensures.cases in
    where_front c.args.cells.now c.in-Some.cells.now lent.enough lent.same c.args.t.now c.args.n (omega arith) (λ g ws. ¬ Accepted g ws) (c.is_accepted.ensures.no f)
