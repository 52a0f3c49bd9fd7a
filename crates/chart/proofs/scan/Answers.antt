use Rattle.std.proofs.Common.{◌≡◌, ◌+◌, subst, arith}
use Rattle.chart.specs.Columns.{Scanned}
use Rattle.chart.proofs.Steady.{scanned_more}
use Rattle.chart.proofs.scan.Goals as goal

pub loop-i-preserved : goal.loop-i-preserved
loop-i-preserved c =
    scanned_more c.args.t.now c.args.j c.args.kind c.loop-i.i _ c.args.cells.now c.loop-i.cells
    _ _ (omega arith) (omega arith)
    (omega arith) c.places_of-waiting.ensures c.loop-i.invariant c.advance.ensures

pub returns-2 : goal.returns-2
returns-2 c =
    let e : c.loop-i.i ≡ c.args.j = omega arith in
    subst (λ n. Scanned c.args.t.now c.args.j c.args.kind (n + 1) c.args.cells.now c.advance.new.cells) e
    (scanned_more c.args.t.now c.args.j c.args.kind c.loop-i.i _ c.args.cells.now c.loop-i.cells
    _ _ (omega arith) (omega arith)
    (omega arith) c.places_of-waiting.ensures c.loop-i.invariant c.advance.ensures)
