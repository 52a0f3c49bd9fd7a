-- The closed order of the rules, from the truncated form.
use Rattle.std.proofs.Common.{List}
use mathlib.Core.HLevel.{⊥_prop}
use mathlib.Core.Logic.{∥∥₁_elim}
use native.Mathlib.Nat.{ℕ_set}
use Rattle.grammar.specs.declared.production.Production.{Production as Stored}
use Rattle.grammar.specs.declared.rule.Rule.{Rule as Numbered}
use Rattle.grammar.specs.Model.{rules}
use Rattle.grammar.specs.Sound.{Named}
use Rattle.theory.proofs.Conflicts.{above?}
use Rattle.bitset.specs.declared.rows.Rows.{Rows}
use Rattle.tables.specs.Conflicts.{OrderOf}
use Rattle.tables.specs.Stored.{grammar_of}

pub order_from :
    (ps : List Stored) (rs : List Numbered) (order : Rows) →
    Named (grammar_of 0 ps rs) →
    ∥ OrderOf order (rules rs) ∥₁ →
    OrderOf order (rules rs)
order_from ps rs order named ordered p q = (
  λ h.
      elim (above? (grammar_of 0 ps rs) named p q) [
        | yes a ↦ a
        | no n ↦ absurd (∥∥₁_elim ordered ⊥_prop (λ o. n ((o p q).0 h)))
      ],
  λ a. ∥∥₁_elim ordered (ℕ_set _ _) (λ o. (o p q).1 a),
)
