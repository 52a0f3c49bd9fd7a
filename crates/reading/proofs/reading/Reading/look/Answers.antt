use Rattle.std.proofs.Common.{◌≡◌, ◌+◌, length, sym, refl, arith}
use Rattle.std.proofs.lemmas.Bool.{false≢true}
use Rattle.theory.proofs.Exact.{viable_kinds}
use Rattle.bitset.proofs.Digits.{none_of_zero}
use Rattle.reading.specs.Readings.{words, grammar_of}
use Rattle.reading.proofs.Sealed.{means_at}
use Rattle.reading.proofs.Stepping.{few_words, handed_chart}
use Rattle.reading.proofs.Words.{whole}
use Rattle.reading.proofs.reading.Reading.look.Goals as goal

pub returns-then-is_full : goal.returns-then-is_full
returns-then-is_full c =
    let r = c.args.self.now in
    let e = c.in_ok-cells.ensures in
    let n = c.len-count.ensures.value in
    let full = c.if-is_full.ensures.full.0 refl in (
      e.0,
      λ m.
          let means = means_at r.grammar.now _ c.tables-tables.ensures in
          let chart = handed_chart r _ c.tables-tables.ensures _ e.1 m in
          record {
            whole =
                whole c.accepts-sentence.result (grammar_of r) (words r) (λ t. c.accepts-sentence.ensures.yes t (grammar_of r) (words r) means (sym n) chart)
                (λ t. c.accepts-sentence.ensures.no t (grammar_of r) (words r) means (sym n) chart);
            next = λ b l. (λ h. absurd (none_of_zero b h), λ h. absurd (omega (arith, full, h.0)));
          },
    )

pub returns : goal.returns
returns c =
    let r = c.args.self.now in
    let e = c.in_ok-cells.ensures in
    let n = c.len-count.ensures.value in
    let not_full : ¬ (length (words r) ≡ 48) = λ h. false≢true (c.if-is_full.ensures.full.1 h) in (
      e.0,
      λ m.
          let means = means_at r.grammar.now _ c.tables-tables.ensures in
          let chart = handed_chart r _ c.tables-tables.ensures _ e.1 m in
          record {
            whole =
                whole c.accepts-sentence.result (grammar_of r) (words r) (λ t. c.accepts-sentence.ensures.yes t (grammar_of r) (words r) means (sym n) chart)
                (λ t. c.accepts-sentence.ensures.no t (grammar_of r) (words r) means (sym n) chart);
            next = λ b l.
                let k = c.expected_kinds-kinds.ensures (grammar_of r) (words r) means (sym n) chart b l in
                let v = viable_kinds (grammar_of r) (words r) (16 + b) (omega arith, omega arith) in
                (λ h. (omega (arith, few_words r), v.0 (k.0 h)), λ h. k.1 (v.1 h.1));
          },
    )
