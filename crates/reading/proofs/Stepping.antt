-- The words and the cells after a call that changes them. Assumes nothing.
use Rattle.std.proofs.Common.{◌≡◌, ℕ, ◌≤◌, List, length, get_or, Ok, Err, Result, sym, ap, subst, arith}
use Rattle.std.proofs.lemmas.List.{length-take-le}
use Rattle.grammar.specs.declared.refusals.ReadingRefusal.{ReadingRefusal}
use Rattle.tables.specs.declared.tables.Tables.{Tables}
use Rattle.tables.specs.Meaning.{Means}
use Rattle.chart.specs.Chart.{Charted, RestKept}
use Rattle.draft.specs.declared.sealed.Grammar.{Grammar as Sealed}
use Rattle.draft.specs.Sealed.{sealed_model}
use Rattle.reading.specs.declared.reading.Reading.{Reading}
use Rattle.reading.specs.Readings.{words, cells, grammar_of, tables_of, Long, Marks, Changes}
use Rattle.reading.proofs.Sealed.{means_at, charted_at, charted_back}

module _ (answers : Result ℕ ReadingRefusal → List ℕ → Type 0) (before after : Reading) (long : Long (cells before)) (g : after.grammar.now ≡ before.grammar.now) (n : after.chart.ghost_name ≡ before.chart.ghost_name) where
  -- a chart of the same grammar
  marks_after : Charted (tables_of before) (grammar_of before) (words after) (cells after) → Marks after
  marks_after = subst (λ (x : Sealed). Charted x.tables (sealed_model x) (words after) (cells after)) (sym g)

  -- a refusal changes nothing
  pub refused_change : (e : ReadingRefusal) (a : Result ℕ ReadingRefusal) → a ≡ Err e → words after ≡ words before → cells after ≡ cells before → (Marks before → answers (Err e) (words before)) → Changes answers before a after
  refused_change e a is still same all =
      subst (λ x. Changes answers before x after) (sym is) (record {
        kept = record { grammar = g; lent = n; size = ap length same; rest = λ k l. ap (λ xs. get_or xs k 0) same };
        short = λ h. absurd (h long);
        answered = λ l m. subst (answers (Err e)) (sym still) (all m);
        marks = λ l m.
            marks_after
            (subst (λ vs. Charted (tables_of before) (grammar_of before) vs (cells after)) (sym still)
            (subst (Charted (tables_of before) (grammar_of before) (words before)) (sym same) m));
        refused = λ x. record { words_same = still; cells_same = same };
      })

  -- what is taken leaves the chart of the new words
  pub taken_change :
      (v : ℕ) (t : Tables) → t ≡ tables_of before → length (cells after) ≡ length (cells before) → RestKept (cells before) (cells after) →
      (Means t (grammar_of before) → Charted t (grammar_of before) (words before) (cells before) → answers (Ok v) (words after) × Charted t (grammar_of before) (words after) (cells after)) →
      Changes answers before (Ok v) after
  taken_change v t e size rest all =
      let given = before.grammar.now in
      record {
        kept = record { grammar = g; lent = n; size = size; rest = rest };
        short = λ h. absurd (h long);
        answered = λ l m. (all (means_at given t e) (charted_at given t e m)).0;
        marks = λ l m. marks_after (charted_back given t e (all (means_at given t e) (charted_at given t e m)).1);
        refused = λ x. absurd x;
      }

-- at most 48 words stand
pub few_words : (r : Reading) → length (words r) ≤ 48
few_words r = let f = r.line.few in let w = r.line.whole in omega (arith, length-take-le r.line.count r.line.bytes (omega arith))

-- the cells that are handed out hold the chart of the words
pub handed_chart : (r : Reading) (t : Tables) → t ≡ tables_of r → (out : List ℕ) → out ≡ cells r → Marks r → Charted t (grammar_of r) (words r) out
handed_chart r t e out same marks = subst (Charted t (grammar_of r) (words r)) (sym same) (charted_at r.grammar.now t e marks)
