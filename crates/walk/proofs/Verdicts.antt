-- Verdicts from what the calls of a reading answer. Assumes nothing.
use Rattle.std.proofs.Common.{◌≡◌, ℕ, Bool, true, false, Ok, Err, Result, sym, refl, ap, ◌∙◌, subst, arith}
use Rattle.std.proofs.lemmas.Bool.{true≢false}
use Rattle.grammar.specs.declared.refusals.ReadingRefusal.{ReadingRefusal}
use Rattle.grammar.specs.declared.refusals.ReadingRefusal.TheVariants.{LineFull, NoKind, NothingBegins, NoWord, NoSentence, ShortChart, ShortListing, ShortTable}
use Rattle.grammar.specs.declared.refusals.Refusal.TheVariants.{Reading as Layer}
use Rattle.grammar.specs.Refusals.{number as number_of}
use Rattle.reading.specs.declared.reading.Reading.{Reading}
use Rattle.reading.specs.Readings.{Long, Marks, Looked, ScoreCause, chart_too_short, table_too_short, ScoreRefused, cells}
use Rattle.lines.specs.Lines.{fault}
use Rattle.walk.specs.declared.scores.Scores.{Scores}
use Rattle.walk.specs.Verdicts.{TablesShort, BothScores, WordsJudged, chart_short, no_sentence, tables_short, scored}

module _ (r : Reading) where
  -- a refused score
  pub refused_scores : (a : Result Scores ReadingRefusal) (n : ℕ) (e f : ReadingRefusal) → n ≡ 8000 → a ≡ Err f → f ≡ e → ScoreRefused r n (Err e) → BothScores r a
  refused_scores a n e f m i j h =
      subst (λ b. BothScores r b) (sym (i ∙ ap Err j)) (subst (λ k. ScoreRefused r k (Err e)) m h)

  -- no cause for a refusal
  pub long_tables : (n : ℕ) → n ≡ 8000 → ((k : ℕ) → ¬ ScoreCause r n k) → ¬ TablesShort r
  long_tables n m none t = none 16 (table_too_short (omega arith))

  -- on a long chart only short tables refuse a score
  short_cause : (n : ℕ) → ScoreCause r 8000 n → Long (cells r) → (n ≡ 16) × TablesShort r
  short_cause n (chart_too_short h) l = absurd (h l)
  short_cause n (table_too_short h) l = (refl, h)

  -- and they have one refusal
  short_table : (e : ReadingRefusal) → number_of (Layer e) ≡ 16 → e ≡ ShortTable
  short_table ShortTable n = refl
  short_table LineFull n = absurd (omega arith)
  short_table NoKind n = absurd (omega arith)
  short_table NothingBegins n = absurd (omega arith)
  short_table NoWord n = absurd (omega arith)
  short_table NoSentence n = absurd (omega arith)
  short_table ShortChart n = absurd (omega arith)
  short_table ShortListing n = absurd (omega arith)

  module _ (end : ℕ) where
    -- a short chart
    pub judged_short : (e : ReadingRefusal) → Looked r (Err e) → WordsJudged r end (Err (fault (Layer e) 0))
    judged_short e h = subst (λ x. WordsJudged r end (Err (fault (Layer x) 0))) (sym h.1) (chart_short h.0)

    -- no sentence
    pub judged_none : (k : Bool × ℕ) → Looked r (Ok k) → (Long (cells r) → Marks r) → k.0 ≡ false → WordsJudged r end (Err (fault (Layer NoSentence) end))
    judged_none k h marks f = no_sentence h.0 (λ t. true≢false (sym ((h.1 (marks h.0)).whole.1 t) ∙ f))

    -- a sentence for which the tables are too short
    pub judged_unscored :
        (k : Bool × ℕ) (e : ReadingRefusal) →
        Looked r (Ok k) →
        (Long (cells r) → Marks r) →
        k.0 ≡ true →
        BothScores r (Err e) →
        WordsJudged r end (Err (fault (Layer e) 0))
    judged_unscored k e h marks t b =
        let c = short_cause (number_of (Layer e)) b.0 h.0 in
        subst (λ x. WordsJudged r end (Err (fault (Layer x) 0))) (sym (short_table e c.0)) (tables_short h.0 ((h.1 (marks h.0)).whole.0 t) c.1)

    -- a sentence with its scores
    pub judged_scored :
        (k : Bool × ℕ) (x : Scores) →
        Looked r (Ok k) →
        (Long (cells r) → Marks r) →
        k.0 ≡ true →
        BothScores r (Ok x) →
        WordsJudged r end (Ok x)
    judged_scored k x h marks t (c, p, long, a, b, i, j) =
        subst (λ n. WordsJudged r end (Ok (record { trees = n; price = x.price }))) (sym i)
        (subst (λ n. WordsJudged r end (Ok (record { trees = c.value; price = n }))) (sym j) (scored h.0 ((h.1 (marks h.0)).whole.0 t) long a b))
