use Rattle.std.proofs.Common.{ℕ, ◌<◌, arith, rules}
use Rattle.std.proofs.iter.runs.Sources.{ranges}
use Rattle.chart.specs.Columns.{Ends}
use Rattle.chart.proofs.Words.{accepted, not_accepted}
use Rattle.chart.proofs.is_accepted.Goals as goal

pub returns-clause-yes : goal.returns-clause-yes
returns-clause-yes c t =
    let found : (q : ℕ) × (q < c.args.t.now.count) × Ends c.args.t.now c.args.n c.args.cells.now q = search (rules, ranges) in
    accepted c.args.t.now c.args.n c.args.cells.now found.0 (omega arith) found.1 found.2

pub returns-clause-no : goal.returns-clause-no
returns-clause-no c f =
    let none : (q : ℕ) → q < c.args.t.now.count → ¬ Ends c.args.t.now c.args.n c.args.cells.now q = search (rules, ranges) in
    not_accepted c.args.t.now c.args.n c.args.cells.now none
