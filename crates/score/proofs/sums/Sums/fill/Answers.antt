use Rattle.std.proofs.Common.{◌≡◌, ℕ, ◌+◌, ◌<◌, ◌≤◌, List, length, sym, ap, ◌∙◌, subst, inr, ⊎_elim, arith, rules}
use Rattle.std.proofs.lemmas.Bool.{cases_lt}
use Rattle.scales.specs.Scales.{Scale}
use Rattle.score.specs.declared.input.Input.{Input}
use Rattle.score.specs.Inputs.{words_in, entries_in, stage}
use Rattle.score.specs.Filling.{held, Right, Blank, Fills, AllRight}
use Rattle.score.proofs.Places.{index_low}
use Rattle.score.proofs.Stages.{all_stages}
use Rattle.score.proofs.sums.Sums.fill.Goals as goal

module _ {S : Type 0} (s : Scale S) (x : Input) where
  -- nothing is filled in at first
  begins : (W : ℕ → ℕ → ℕ → ℕ → S) (t u : List S) → Blank s (entries_in x) t u → Right s x W u (stage 0 0 0 0 0)
  begins W t u h = record {
    part = λ p k i j inside. inr (h.none _ (index_low x p k i j inside));
    done = λ p k i j inside l less. absurd (omega arith);
  }

  -- and everything at last
  ends :
      (t u v : List S) (n : ℕ) → length (words_in x) + 1 ≤ n → Blank s (entries_in x) t u → Fills s x u v (stage 0 0 0 0 0) (stage n 0 0 0 0) →
      AllRight s x t v
  ends t u v n l h f = record {
    size = f.size ∙ h.size;
    later = λ k d lk. f.later k d lk ∙ h.later k d lk;
    right = λ start rs W given p k i j inside.
        let r = f.right start rs W given (begins W t u h) in
        let a = all_stages s x start rs W given p k i j inside in
        ⊎_elim (λ (b : j < i).
        ⊎_elim (λ (e : held s x v p k i j ≡ W p k i j). e)
        (λ (e : held s x v p k i j ≡ s.none). e ∙ sym (given.weights.backwards p k i j b))
        (r.part p k i j inside))
        (λ (b : i ≤ j). r.done p k i j inside b (omega arith))
        (cases_lt j i);
  }

pub returns-2-clause-right : goal.returns-2-clause-right
returns-2-clause-right g c =
    let s = g.S.Semiring.scale in
    let x = c.args.self.now.input.now in
    let w = c.clear.new.self.input.now in
    let u = c.clear.new.self.table.now in
    let v = c.fill_length.new.self.table.now in
    let n = c.loop-len.len + 1 in
    let same : w ≡ x = ap (λ r. r.now) c.clear.ensures.kept.0 in
    let all : Fills s w u v (stage 0 0 0 0 0) (stage n 0 0 0 0) = search rules in
    ends s x c.args.self.now.table.now u v n (subst (λ z. length (words_in z) + 1 ≤ n) same (omega arith)) c.clear.ensures.blank
    (subst (λ z. Fills s z u v (stage 0 0 0 0 0) (stage n 0 0 0 0)) same all)
