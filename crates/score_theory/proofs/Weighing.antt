-- Every list of words has its sums and its score in every well-formed grammar.
use Rattle.std.proofs.Common.{◌≡◌, ℕ, suc, ◌+◌, ◌*◌, ◌≤◌, List, length, sym, ◌∙◌, arith}
use native.Mathlib.Decide.{ℕ_discrete}
use Rattle.grammar.specs.Grammar.{Grammar, left_of, size_of}
use Rattle.grammar.specs.Trees.{Forest, words_of}
use Rattle.grammar.specs.Sound.{Named, WellFormed}
use Rattle.scales.specs.Scales.{Scale, SemiringLaws}
use Rattle.score_theory.specs.Totals.{Enumerates}
use Rattle.score_theory.specs.Scores.{price_of, product, Way, Score, Scored}
use Rattle.score_theory.specs.Weights.{Weights, sum_below}
use Rattle.score_theory.proofs.Enumerations.{enumerates_iff, enumerates_kept, kept}
use Rattle.score_theory.proofs.Sums.{one_sum}
use Rattle.score_theory.proofs.Spellings.{spells?}
use Rattle.score_theory.proofs.Depths.{depth_bound}
use Rattle.score_theory.proofs.Forests.{all_shallow}
use Rattle.score_theory.proofs.Recurrences.{weights_of}
use Rattle.score_theory.proofs.Ranks.{Ranked, ranking}

-- ---- all ways

module _ (g : Grammar) (named : Named g) (rank : ℕ → ℕ) (falls : Ranked g.productions rank) (small : (A : ℕ) → rank A ≤ 16) (ws : List ℕ) where
  pub ways : (p k i j : ℕ) → (fs : List Forest) × Enumerates (Way g ws p k i j) fs
  ways p k i j =
      let fs = all_shallow g named (suc (length ws) * 17 + 16) p k in (
        kept (λ f. spells? ws i j (words_of f)) fs.0,
        enumerates_iff
            (λ f h. (h.0.0, h.1))
            (λ f h. ((h.0, depth_bound g rank falls small h.0 (length ws) (let x = h.1.0 in let y = h.1.1 in omega arith)), h.1))
            (enumerates_kept (λ f. spells? ws i j (words_of f)) fs.1),
      )

-- ---- sums and scores

module _ {S : Type 0} (s : Scale S) (laws : SemiringLaws s) where
  -- where a rank falls from what leads to what it leads to
  pub weights_ranked :
      (g : Grammar) →
      Named g →
      (rank : ℕ → ℕ) →
      Ranked g.productions rank →
      ((A : ℕ) → rank A ≤ 16) →
      (ws : List ℕ) →
      (W : ℕ → ℕ → ℕ → ℕ → S) × Weights s g ws W
  weights_ranked g named rank falls small ws =
      (_, weights_of s laws g named ws (λ p k i j. (ways g named rank falls small ws p k i j).0) (λ p k i j. (ways g named rank falls small ws p k i j).1))

  pub weights : (g : Grammar) → WellFormed g → (ws : List ℕ) → (W : ℕ → ℕ → ℕ → ℕ → S) × Weights s g ws W
  weights g well ws =
      let r = ranking g.productions well.sides well.acyclic in
      weights_ranked g well.named r.0 r.1 r.2 ws

  abbrev value_if : {X : Type 0} → Dec X → S → S
  value_if (yes x) v = v
  value_if (no x) v = s.none

  value_yes : {X : Type 0} (d : Dec X) (v : S) → X → value_if d v ≡ v
  value_yes (yes x) v h = λ i. v
  value_yes (no x) v h = absurd (x h)

  value_no : {X : Type 0} (d : Dec X) (v : S) → (¬ X) → value_if d v ≡ s.none
  value_no (yes x) v h = absurd (h x)
  value_no (no x) v h = λ i. s.none

  some_score : (g : Grammar) → WellFormed g → (ws : List ℕ) → (v : S) × Score s g ws v
  some_score g well ws =
      let r = weights g well ws in
      let value : ℕ → S = λ p. s.times (s.value (price_of g p)) (r.0 p (size_of g p) 0 (length ws)) in
      let term : ℕ → S = λ p. value_if (ℕ_discrete (left_of g p) g.start) (value p) in (
        sum_below s (length g.productions) term,
        r.1.whole term (λ p known starts. value_yes (ℕ_discrete (left_of g p) g.start) (value p) starts) (λ p known other. value_no (ℕ_discrete (left_of g p) g.start) (value p) other),
      )

  pub one_score : (g : Grammar) (ws : List ℕ) (v v' : S) → Score s g ws v → Score s g ws v' → v ≡ v'
  one_score g ws v v' a b = a.is ∙ one_sum s laws (product s g) a.all b.all ∙ sym b.is

  pub scored : Scored s
  scored = record { some = some_score; one = one_score }
