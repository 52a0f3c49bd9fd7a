-- Tables that are filled in, step by step.
use Rattle.std.proofs.Common.{◌≡◌, ℕ, ◌+◌, ◌<◌, ◌≤◌, ◌≢◌, List, length, set, sym, refl, ◌∙◌, subst, inl, inr, ⊎_elim, arith}
use Rattle.std.proofs.lemmas.List.{length-set, get_or-set_same, get_or-set_other}
use Rattle.std.proofs.lemmas.Bool.{cases_eq}
use Rattle.grammar.specs.Grammar.{Rule}
use Rattle.scales.specs.Scales.{Scale}
use Rattle.score.specs.Inputs.{Inside, index_in, entries_in, stage_in, Given}
use Rattle.score.specs.Filling.{held, Right, Makes, Fills}
use Rattle.score.specs.declared.input.Input.{Input}
use Rattle.score.proofs.Places.{index_low, index_unique}
use Rattle.score.proofs.Stages.{stage_unique}

module _ {S : Type 0} (s : Scale S) (x : Input) where
  pub fills_none : (t : List S) (a : ℕ) → Fills s x t t a a
  fills_none t a = record { size = refl; later = λ k d l. refl; right = λ start rs W given r. r }

  -- stages that no entry has are passed over
  pub fills_on :
      (t u : List S) (a b c : ℕ) → Fills s x t u a b →
      ((start : ℕ) (rs : List Rule) (W : ℕ → ℕ → ℕ → ℕ → S) → Given s x start rs W →
      (p k i j : ℕ) → Inside x p k i j → i ≤ j → stage_in x p k i j < c → stage_in x p k i j < b) →
      Fills s x t u a c
  fills_on t u a b c f skip = record {
    size = f.size;
    later = f.later;
    right = λ start rs W given r.
        let w = f.right start rs W given r in
        record { part = w.part; done = λ p k i j h l less. w.done p k i j h l (skip start rs W given p k i j h l less) };
  }

  pub fills_at : (t u : List S) (a b c d : ℕ) → a ≡ c → b ≡ d → Fills s x t u a b → Fills s x t u c d
  fills_at t u a b c d e h f = subst (λ z. Fills s x t u z d) e (subst (λ z. Fills s x t u a z) h f)

  module _ (t : List S) (p k i j : ℕ) (inside : Inside x p k i j) (lij : i ≤ j) (room : entries_in x ≤ length t) (v : S)
      (makes : Makes s x t p k i j v) where
    module _ (start : ℕ) (rs : List Rule) (W : ℕ → ℕ → ℕ → ℕ → S) (given : Given s x start rs W) (r : Right s x W t (stage_in x p k i j)) where
      is : held s x (set t (index_in x p k i j) v) p k i j ≡ W p k i j
      is =
          let l = index_low x p k i j inside in
          get_or-set_same t (index_in x p k i j) v s.none (omega arith) ∙ makes start rs W given r

      same : (q l m n : ℕ) → (p ≡ q) × (k ≡ l) × (i ≡ m) × (j ≡ n) → held s x (set t (index_in x p k i j) v) q l m n ≡ W q l m n
      same q l m n e =
          subst (λ z. held s x (set t (index_in x p k i j) v) z l m n ≡ W z l m n) e.0
          (subst (λ z. held s x (set t (index_in x p k i j) v) p z m n ≡ W p z m n) e.1
          (subst (λ z. held s x (set t (index_in x p k i j) v) p k z n ≡ W p k z n) e.2
          (subst (λ z. held s x (set t (index_in x p k i j) v) p k i z ≡ W p k i z) e.3 is)))

      other : (q l m n : ℕ) → (¬ (index_in x p k i j ≡ index_in x q l m n)) → held s x (set t (index_in x p k i j) v) q l m n ≡ held s x t q l m n
      other q l m n apart = get_or-set_other t (index_in x p k i j) (index_in x q l m n) v s.none (λ e. apart (sym e))

      written : Right s x W (set t (index_in x p k i j) v) (stage_in x p k i j + 1)
      written = record {
        part = λ q l m n h.
            ⊎_elim (λ (e : index_in x p k i j ≡ index_in x q l m n). inl (same q l m n (index_unique x p k i j q l m n inside h e)))
            (λ (apart : ¬ (index_in x p k i j ≡ index_in x q l m n)).
            ⊎_elim (λ (o : held s x t q l m n ≡ W q l m n). inl (other q l m n apart ∙ o))
            (λ (o : held s x t q l m n ≡ s.none). inr (other q l m n apart ∙ o))
            (r.part q l m n h))
            (cases_eq (index_in x p k i j) (index_in x q l m n));
        done = λ q l m n h lmn less.
            ⊎_elim (λ (e : index_in x p k i j ≡ index_in x q l m n). same q l m n (index_unique x p k i j q l m n inside h e))
            (λ (apart : ¬ (index_in x p k i j ≡ index_in x q l m n)).
            ⊎_elim
            (λ (e : stage_in x p k i j ≡ stage_in x q l m n).
            same q l m n (stage_unique s x start rs W given p k i j q l m n inside h lij lmn e))
            (λ (ne : ¬ (stage_in x p k i j ≡ stage_in x q l m n)).
            other q l m n apart ∙ r.done q l m n h lmn (omega (arith, ne)))
            (cases_eq (stage_in x p k i j) (stage_in x q l m n)))
            (cases_eq (index_in x p k i j) (index_in x q l m n));
      }

    -- an entry is written
    pub fills_one : Fills s x t (set t (index_in x p k i j) v) (stage_in x p k i j) (stage_in x p k i j + 1)
    fills_one = record {
      size = length-set t (index_in x p k i j) v;
      later = λ z d l.
          let low = index_low x p k i j inside in
          let ne : z ≢ index_in x p k i j = omega arith in
          get_or-set_other t (index_in x p k i j) z v d ne;
      right = written;
    }
