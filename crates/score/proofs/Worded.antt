-- The sums over no symbols and over one kind more.
use Rattle.std.proofs.Common.{◌≡◌, ℕ, suc, ◌-◌, ◌<◌, ◌≤◌, List, length, get_or, sym, ap, ◌∙◌, arith}
use Rattle.grammar.specs.Grammar.{Rule, Kind, At, right_at}
use Rattle.scales.specs.Scales.{Scale}
use Rattle.score.specs.Inputs.{productions_in, words_in, Inside, Given}
use Rattle.score.specs.Filling.{held, Makes}
use Rattle.score.specs.declared.input.Input.{Input}
use Rattle.score.proofs.Levels.{level_small}

module _ {S : Type 0} (s : Scale S) (x : Input) (table : List S) where
  module _ (p k a : ℕ) (kp : p < length (productions_in x)) (at : At (right_at (productions_in x) p) k a) (high : 16 ≤ a) where
    kind : (start : ℕ) (rs : List Rule) (W : ℕ → ℕ → ℕ → ℕ → S) → Given s x start rs W → Kind a
    kind start rs W given =
        let l = given.formed.symbols p k kp at.0 in
        let e = at.1 in
        (high, omega arith)

    pub no_word : (i j : ℕ) (v : S) → v ≡ s.none → j ≤ i → Makes s x table p (suc k) i j v
    no_word i j v e l start rs W given right = e ∙ sym (given.weights.no_word p k i j a at (kind start rs W given) l)

    pub other_word : (i j : ℕ) (v : S) → v ≡ s.none → i < j → (¬ (get_or (words_in x) (j - 1) 0 ≡ a)) → Makes s x table p (suc k) i j v
    other_word i j v e l other start rs W given right =
        let back : suc (j - 1) ≡ j = omega arith in
        e ∙ sym (given.weights.no_kind p k i (j - 1) a at (kind start rs W given) (λ t. other t.1)) ∙ ap (λ z. W p (suc k) i z) back

    pub word :
        (i j : ℕ) (v : S) → i < j → j ≤ length (words_in x) → v ≡ held s x table p k i (j - 1) → get_or (words_in x) (j - 1) 0 ≡ a →
        Makes s x table p (suc k) i j v
    word i j v l lj e same start rs W given right =
        let back : suc (j - 1) ≡ j = omega arith in
        let low = level_small x start rs given.means p k in
        let inner : Inside x p k i (j - 1) = (kp, omega (arith, at.0), omega arith, omega arith) in
        e
        ∙ right.done p k i (j - 1) inner (omega arith) (omega arith)
        ∙ sym (given.weights.kind p k i (j - 1) a at (kind start rs W given) (omega arith, same))
        ∙ ap (λ z. W p (suc k) i z) back
