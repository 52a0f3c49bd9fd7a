use Rattle.std.proofs.Common.{ℕ, ◌+◌, ◌<◌, ◌↔◌, arith}
use Rattle.bitset.specs.Bits.{Has}
use Rattle.theory.specs.Claims.{Awaited}
use Rattle.chart.proofs.Fronts.{where_front}
use Rattle.chart.proofs.expected_kinds.Goals as goal

pub returns : goal.returns
returns c =
    let lent = c.in-Some.ensures.cases in
    where_front c.args.cells.now c.in-Some.cells.now lent.enough lent.same c.args.t.now c.args.n (omega arith)
    (λ g ws. (b : ℕ) → b < 32 → Has c.kinds_behind.result b ↔ Awaited g ws (16 + b)) c.kinds_behind.ensures
