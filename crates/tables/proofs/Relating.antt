-- Rules that relate two productions, by index.
use Rattle.std.proofs.Common.{◌≡◌, ℕ, ◌<◌, List, length, ap, ◌∙◌, inl, inr, ⊎_elim}
use Rattle.grammar.specs.declared.rule.Relation.{Relation}
use Rattle.grammar.specs.Grammar.{Rule, no_rule, rule_at}
use Rattle.grammar.specs.Order.{Ruled, Beside}
use Rattle.derivations.proofs.Elements.{member_at, index_of}
use Rattle.tables.specs.Conflicts.{Relates}

same_rule : (r : Rule) (u : ℕ) (x : Relation) (v : ℕ) → r.upper ≡ u → r.relation ≡ x → r.lower ≡ v → r ≡ record { upper = u; relation = x; lower = v }
same_rule r u x v e f g =
    ap (λ n. record { upper = n; relation = r.relation; lower = r.lower }) e ∙ ap (λ (y : Relation). record { upper = u; relation = y; lower = r.lower }) f
    ∙ ap (λ n. record { upper = u; relation = x; lower = n }) g

module _ (rs : List Rule) (p : ℕ) (relation : Relation) (q : ℕ) where
  pub beside_at : (k : ℕ) → k < length rs → Relates (rule_at rs k) p relation q → Beside rs p relation q
  beside_at k l h =
      let same : (u v : ℕ) → (rule_at rs k).upper ≡ u → (rule_at rs k).lower ≡ v → Ruled rs u relation v =
      λ u v e f. member_at _ no_rule rs k l (same_rule (rule_at rs k) u relation v e h.0 f) in
      ⊎_elim (λ (s : ((rule_at rs k).upper ≡ p) × ((rule_at rs k).lower ≡ q)). inl (same p q s.0 s.1))
      (λ (s : ((rule_at rs k).upper ≡ q) × ((rule_at rs k).lower ≡ p)). inr (same q p s.0 s.1))
      h.1

  pub at_beside : Beside rs p relation q → (k : ℕ) × (k < length rs) × Relates (rule_at rs k) p relation q
  at_beside =
      ⊎_elim (λ (m : Ruled rs p relation q).
      let i = index_of _ no_rule rs m in
      (i.0, i.1, (ap (λ (r : Rule). r.relation) i.2, inl (ap (λ (r : Rule). r.upper) i.2, ap (λ (r : Rule). r.lower) i.2))))
      (λ (m : Ruled rs q relation p).
      let i = index_of _ no_rule rs m in
      (i.0, i.1, (ap (λ (r : Rule). r.relation) i.2, inr (ap (λ (r : Rule). r.upper) i.2, ap (λ (r : Rule). r.lower) i.2))))
