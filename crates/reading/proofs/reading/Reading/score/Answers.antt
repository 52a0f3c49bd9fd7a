use Rattle.std.proofs.Common.{◌≡◌, length, Err, sym, refl, ap, ◌∙◌, subst, arith}
use Rattle.std.proofs.lemmas.Result.{err_from_is_err_and}
use Rattle.grammar.specs.declared.refusals.ReadingRefusal.TheVariants.{ShortChart}
use Rattle.grammar.specs.Grammar.{places}
use Rattle.score.specs.Filled.{Filled}
use Rattle.score_theory.specs.Scores.{Score}
use Rattle.reading.specs.Readings.{grammar_of, ScoreCause, chart_too_short, table_too_short, Scored, ScoreRefused, without_value}
use Rattle.reading.proofs.Sealed.{means_at}
use Rattle.reading.proofs.Handed.{formed, productions_at, start_at, few, small, lefts, firsts}
use Rattle.reading.proofs.Scoring.{score_none, score_possible, entries_at, room_at}
use Rattle.reading.proofs.Stepping.{few_words}
use Rattle.reading.proofs.reading.Reading.score.Goals as goal

pub returns-in_err-cells : goal.returns-in_err-cells
returns-in_err-cells g c =
    let r = c.args.self.now in
    let entries = length c.args.table.now in
    let cause : ScoreCause r entries 14 = chart_too_short c.in_err-cells.ensures.1 in
    let none = score_none r entries 14 (λ l. absurd (omega arith)) (λ l. absurd (omega arith)) in
    let p = err_from_is_err_and c.from_residual.result c.from_residual.ensures.1 in
    let e : c.from_residual.result ≡ Err ShortChart = p.1 ∙ ap Err (p.2 ∙ c.in_err-cells.ensures.0) in
    record {
      scored = subst (λ a. Scored g.S.Semiring.scale r c.args.table.now a c.args.table.now) (sym e) (cause, none, refl);
      refused = subst (λ a. ScoreRefused r entries (without_value a)) (sym e) (cause, none);
    }

pub returns-then-table-place_count : goal.returns-then-table-place_count
returns-then-table-place_count g c =
    let r = c.args.self.now in
    let e = entries_at r _ c.draft-draft.ensures _ c.place_count.ensures _ c.words-words.ensures in
    let cause : ScoreCause r (length c.args.table.now) 16 = table_too_short (omega (arith, e, c.if-table-place_count.true)) in
    let none = score_none r (length c.args.table.now) 16 (λ l. c.in_ok-cells.ensures.0) (λ l. absurd (omega arith)) in
    record { scored = (cause, none, refl); refused = (cause, none) }

pub score-requires : goal.score-requires
score-requires g c =
    let r = c.args.self.now in
    let w = ap length c.words-words.ensures in
    let given = r.grammar.now in
    record {
      few_words = omega (arith, few_words r, w);
      few = few given _ c.draft-draft.ensures _ c.productions-productions.ensures _ c.tables-tables.ensures;
      small = small given _ c.draft-draft.ensures _ c.productions-productions.ensures _ c.tables-tables.ensures;
      lefts = lefts given _ c.draft-draft.ensures _ c.productions-productions.ensures _ c.tables-tables.ensures;
      firsts = firsts given _ c.draft-draft.ensures _ c.productions-productions.ensures _ c.tables-tables.ensures;
      room = room_at c.place_count.result _ (length c.words-words.result.now) (length c.args.table.now) (c.place_count.ensures ∙ ap places (sym c.productions-productions.ensures)) c.if-table-place_count.false;
    }

pub returns : goal.returns
returns g c =
    let r = c.args.self.now in
    let given = r.grammar.now in
    let e = entries_at r _ c.draft-draft.ensures _ c.place_count.ensures _ c.words-words.ensures in
    let none = score_possible r (length c.args.table.now) c.in_ok-cells.ensures.0 (omega (arith, e, c.if-table-place_count.false)) in
    record {
      scored = (
        none,
        subst (λ ws. Score g.S.Semiring.scale (grammar_of r) ws c.score.result × Filled g.S.Semiring.scale (grammar_of r) ws c.args.table.now c.score.new.table) c.words-words.ensures
            (c.score.ensures (grammar_of r) (means_at given _ c.tables-tables.ensures) (productions_at given _ c.draft-draft.ensures _ c.productions-productions.ensures)
            (start_at given _ c.draft-draft.ensures _ c.productions-productions.ensures ∙ sym c.start.ensures) (formed given)),
      );
      refused = none;
    }
