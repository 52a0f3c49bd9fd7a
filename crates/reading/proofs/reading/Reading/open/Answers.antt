use Rattle.std.proofs.Common.{ℕ, List, [], get_or, sym, ap, subst}
use Rattle.chart.specs.Chart.{Charted, RestKept}
use Rattle.draft.specs.Sealed.{sealed_model}
use Rattle.reading.proofs.Sealed.{means_at, charted_back}
use Rattle.reading.proofs.reading.Reading.open.Goals as goal
use Rattle.reading.proofs.reading.Reading.open.Goals.{then-chart_fits, else-chart_fits}

pub returns-clause-opened : goal.returns-clause-opened
returns-clause-opened c =
    let g = c.args.grammar.now in
    let after = c.if-chart_fits.chart in
    record {
      none = c.empty-line.ensures;
      size = c.if-chart_fits.auto.chart;
      marks = λ l.
          subst (λ (ws : List ℕ). Charted g.tables (sealed_model g) ws after) (sym c.empty-line.ensures)
          (elim c.if-chart_fits.branch [
            | then-chart_fits w ↦
                subst (Charted g.tables (sealed_model g) []) (sym w.chart-is)
                (charted_back g _ w.tables.ensures (w.open_chart.ensures.charted (sealed_model g) (means_at g _ w.tables.ensures)))
            | else-chart_fits w ↦ absurd (c.chart_fits.ensures.no w.if-chart_fits.false l)
          ]);
      short = λ n.
          elim c.if-chart_fits.branch [
            | then-chart_fits w ↦ absurd (n (c.chart_fits.ensures.yes w.if-chart_fits.true))
            | else-chart_fits w ↦ w.chart-is
          ];
      rest =
          elim c.if-chart_fits.branch [
            | then-chart_fits w ↦ subst (RestKept c.args.chart.now) (sym w.chart-is) w.open_chart.ensures.rest
            | else-chart_fits w ↦ λ k l. ap (λ (x : List ℕ). get_or x k 0) w.chart-is
          ];
    }
