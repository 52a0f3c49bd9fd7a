use Rattle.std.proofs.Common.{subst}
use Rattle.listing.specs.Calls.{Listed as Lists}
use Rattle.chart.specs.Chart.{Charted}
use Rattle.reading.specs.Readings.{grammar_of}
use Rattle.reading.proofs.Sealed.{means_at}
use Rattle.reading.proofs.Handed.{formed, productions_at, counted}
use Rattle.reading.proofs.Stepping.{handed_chart}
use Rattle.reading.proofs.reading.Reading.list.Goals as goal

pub list-requires-clause-counted : goal.list-requires-clause-counted
list-requires-clause-counted c = counted c.args.self.now.grammar.now _ c.draft.ensures _ c.productions-productions.ensures _ c.tables-tables.ensures

pub returns : goal.returns
returns c =
    let r = c.args.self.now in
    let e = c.in_ok-cells.ensures in
    record {
      size = c.list.ensures.size;
      short = λ n. absurd (n e.0);
      listed = λ long marks.
          subst (λ ws. Charted c.tables-tables.result.now (grammar_of r) ws c.in_ok-cells.cells.now → Lists (grammar_of r) ws c.args.records.now c.list.result c.list.new.records) c.words.ensures
          (λ charted.
          c.list.ensures.listed (grammar_of r) (means_at r.grammar.now _ c.tables-tables.ensures)
          (productions_at r.grammar.now _ c.draft.ensures _ c.productions-productions.ensures) (formed r.grammar.now) charted)
          (handed_chart r _ c.tables-tables.ensures _ e.1 marks);
    }
