-- How a rule line falls apart at its first space. Assumes nothing.
use Rattle.std.proofs.Common.{◌≡◌, ℕ, ◌≤◌, List, ◌∷◌, ◌++◌, decimal, sym, ap, ◌∙◌}
use Rattle.grammar.specs.declared.rule.Relation.{Relation}
use Rattle.syntax.specs.Syntax.{sign, rule_line, HasForm}
use Rattle.syntax.specs.Free.{FreeOf}
use Rattle.syntax.proofs.Free.{decimal_part, part_no_space}
use Rattle.syntax.proofs.Lines.{before_first, no_first, render_rule}

-- a line without a space is no rule line
pub no_rule : (line : List ℕ) → FreeOf 32 line → (upper : ℕ) (r : Relation) (lower : ℕ) → ¬ HasForm line (rule_line upper r lower)
no_rule line free upper r lower f = no_first 32 line (decimal upper) (sign r ∷ 32 ∷ decimal lower) free (f.1 ∙ render_rule upper r lower)

module _ (line first rest : List ℕ) (free : FreeOf 32 first) (cut : line ≡ first ++ 32 ∷ rest) where
  -- a rule line has its numbers and its sign there
  pub rule_apart : (upper : ℕ) (r : Relation) (lower : ℕ) → HasForm line (rule_line upper r lower) → (first ≡ decimal upper) × (rest ≡ sign r ∷ 32 ∷ decimal lower)
  rule_apart upper r lower f =
      before_first 32 first (decimal upper) rest (sign r ∷ 32 ∷ decimal lower) free (part_no_space (decimal upper) (decimal_part upper f.0.0))
      (sym cut ∙ f.1 ∙ render_rule upper r lower)

  -- and what has them there is that rule line
  pub rule_joined :
      (upper : ℕ) (r : Relation) (lower : ℕ) (s : ℕ) (last : List ℕ) →
      upper ≤ 65535 →
      lower ≤ 65535 →
      first ≡ decimal upper →
      rest ≡ s ∷ 32 ∷ last →
      s ≡ sign r →
      last ≡ decimal lower →
      HasForm line (rule_line upper r lower)
  rule_joined upper r lower s last u l front back es en = (
    (u, l),
    cut
        ∙ ap (λ (t : List ℕ). t ++ 32 ∷ rest) front
        ∙ ap (λ (t : List ℕ). decimal upper ++ 32 ∷ t) (back ∙ ap (λ y. y ∷ 32 ∷ last) es ∙ ap (λ t. sign r ∷ 32 ∷ t) en)
        ∙ sym (render_rule upper r lower),
  )
