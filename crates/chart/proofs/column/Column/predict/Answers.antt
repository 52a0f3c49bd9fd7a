use Rattle.std.proofs.Common.{sym, ◌∙◌, arith, rules, eqb-true}
use Rattle.std.proofs.lemmas.Bool.{eqb-false, not-true, not-false}
use Rattle.chart.proofs.Steady.{predicted}
use Rattle.chart.proofs.Halves.{some_place, no_place}
use Rattle.chart.proofs.column.Column.predict.Goals as goal
use Rattle.chart.proofs.column.Column.predict.Goals.{then-contains, else-contains}

pub returns-then-places-places_of-ne0-clause-moved : goal.returns-then-places-places_of-ne0-clause-moved
returns-then-places-places_of-ne0-clause-moved c =
    elim c.if-contains.branch [
      | then-contains w ↦
          predicted c.args.self.now.tables.now c.args.self.now.end c.args.q c.args.places w.places_of.result c.args.cells.now _ _
          (rw c.from.ensures at c.add.ensures) c.args.self.now.within c.requires.inside
          (c.contains.ensures.yes w.if-contains.true) c.requires.seen w.places_of.ensures
          (some_place _ _ (omega arith) (eqb-false _ 0 (not-true _ (sym w.value-is ∙ c.if-places-places_of-ne0.true))))
      | else-contains w ↦ search rules
    ]

pub returns-else-places-places_of-ne0-clause-done : goal.returns-else-places-places_of-ne0-clause-done
returns-else-places-places_of-ne0-clause-done c alive d ld h t =
    elim c.if-contains.branch [
      | then-contains w ↦
          absurd (no_place _ _ (eqb-true _ 0 (not-false _ (sym w.value-is ∙ c.if-places-places_of-ne0.false)))
          (d, ld, h, (w.places_of.ensures d ld).1 t))
      | else-contains w ↦ search rules
    ]
