use Rattle.std.proofs.Common.{ℕ, ◌+◌, List, sym, false, rules, subst, arith}
use Rattle.tables.specs.Meaning.{last_of}
use Rattle.chart.specs.Chart.{cell_of, Marked}
use Rattle.chart.specs.Cells.{Advanced}
use Rattle.chart.proofs.Growing.{kept}
use Rattle.chart.proofs.Steady.{completed}
use Rattle.chart.proofs.column.Column.complete.Goals as goal

pub pass-requires-clause-moves : goal.pass-requires-clause-moves
pass-requires-clause-moves c a i r b since l post =
    let col = c.args.self.now in
    let s = c.args.s in
    let q = c.args.q in
    let v : Advanced (cell_of i col.end) (cell_of i s) c.places_of-waiting.result a.now b.now r = search rules in
    completed col.tables.now i s col.end q _ a.now b.now r c.places_of-waiting.ensures v (omega arith) (omega arith) col.within (omega arith)
    (kept since.1.growth (cell_of s col.end) (last_of col.tables.now q) c.requires.whole)

pub returns-clause-done : goal.returns-clause-done
returns-clause-done c same i l d ld h w =
    let col = c.args.self.now in
    let s = c.args.s in
    let here = c.pass.ensures.done same i l in
    let v : Advanced (cell_of i col.end) (cell_of i s) c.places_of-waiting.result here.0.now here.1.now false = search rules in
    subst (λ (cells : List ℕ). Marked cells i col.end (d + 1)) here.3
    (v.makes d ld (subst (λ (cells : List ℕ). Marked cells i s d) (sym here.2) h) ((c.places_of-waiting.ensures d (omega arith)).1 w))
