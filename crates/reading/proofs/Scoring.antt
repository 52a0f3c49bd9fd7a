-- Why a score is refused, and how many entries it fills. Assumes nothing.
use Rattle.std.proofs.Common.{◌≡◌, ℕ, ◌+◌, ◌*◌, ◌<◌, ◌≤◌, List, length, ap, ◌∙◌, subst, arith}
use Rattle.grammar.specs.Grammar.{places}
use Rattle.draft.specs.declared.draft.Draft.{Draft}
use Rattle.draft.specs.Model.{model}
use Rattle.reading.specs.declared.reading.Reading.{Reading}
use Rattle.reading.specs.Readings.{words, cells, grammar_of, Long, ScoreCause, chart_too_short, table_too_short}

-- how many entries the score of the standing words fills
abbrev pub entries_of : Reading → ℕ
entries_of r = places (grammar_of r).productions * ((length (words r) + 1) * (length (words r) + 1))

module _ (r : Reading) (entries : ℕ) where
  -- of the causes below m each is excluded
  pub score_none : (m : ℕ) → (14 < m → Long (cells r)) → (16 < m → entries_of r ≤ entries) → (n : ℕ) → n < m → ¬ ScoreCause r entries n
  score_none m a b n l (chart_too_short h) = h (a l)
  score_none m a b n l (table_too_short h) = let e = b l in omega arith

  pub score_possible : Long (cells r) → entries_of r ≤ entries → (n : ℕ) → ¬ ScoreCause r entries n
  score_possible a b n (chart_too_short h) = h a
  score_possible a b n (table_too_short h) = omega arith

-- the same number, as it is worked out
module _ (r : Reading) (d : Draft) (e : d ≡ r.grammar.now.draft) (n : ℕ) (f : n ≡ places (model d).productions) (ws : List ℕ) (h : ws ≡ words r) where
  pub entries_at : n * ((length ws + 1) * (length ws + 1)) ≡ entries_of r
  entries_at =
      ap (λ (x : ℕ). x * ((length ws + 1) * (length ws + 1))) (f ∙ ap (λ (x : Draft). places (model x).productions) e)
      ∙ ap (λ (us : List ℕ). places (grammar_of r).productions * ((length us + 1) * (length us + 1))) h

-- the table is long enough for the places of the productions
pub room_at : (n m k size : ℕ) → n ≡ m → n * ((k + 1) * (k + 1)) ≤ size → m * ((k + 1) * (k + 1)) ≤ size
room_at n m k size e l = subst (λ (x : ℕ). x * ((k + 1) * (k + 1)) ≤ size) e l
