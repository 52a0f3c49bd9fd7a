use Rattle.std.proofs.Common.{arith}
use Rattle.tables.specs.Sets.{Marked}
use Rattle.tables.proofs.Marks.{marks_all, has_below}
use Rattle.tables.proofs.marking.mark_each.Goals as goal

pub returns : goal.returns
returns c =
    let numbers = c.args.numbers in
    marks_all (Marked c.args.cells.now) (Marked c.loop-x.cells) c.loop-x.x numbers c.args.d
    (λ x h. omega (arith, has_below 32 numbers x (omega (arith, c.ranges.numbers)) h)) c.loop-x.invariant
