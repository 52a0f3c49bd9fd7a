use Rattle.std.proofs.Common.{◌<◌, rules, List, ℕ, subst}
use Rattle.bitset.specs.Bits.{Has}
use Rattle.bitset.proofs.Digits.{none_of_zero}
use Rattle.tables.specs.Meaning.{last_of}
use Rattle.chart.specs.Columns.{ProductionDone}
use Rattle.chart.proofs.column.Column.complete_origin.Goals as goal

pub returns-clause-done : goal.returns-clause-done
returns-clause-done c same q l =
    let here = c.pass.ensures.done same q l in
    let done : ProductionDone c.args.self.now c.args.s here.1.now q = search rules in
    subst (λ (cells : List ℕ). ProductionDone c.args.self.now c.args.s cells q) here.3 done

pub returns-then-places_at-eq0-clause-done : goal.returns-then-places_at-eq0-clause-done
returns-then-places_at-eq0-clause-done c same q l mark =
    let p = last_of c.args.self.now.tables.now q in
    let high : p < 128 = c.args.self.now.tables.now.high q l in
    absurd (none_of_zero p (subst (λ n. Has n p) c.if-places_at-eq0.true ((c.places_at.ensures p high).1 mark)))
