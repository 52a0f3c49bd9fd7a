-- Relations that hold the same have the same closure.
use Rattle.std.proofs.Common.{ℕ, ◌<◌, ◌↔◌, List, length, get_or}
use Rattle.grammar.specs.declared.rule.Relation.TheVariants.{Priority}
use Rattle.grammar.specs.Grammar.{Rule}
use Rattle.grammar.specs.Order.{Closure, closure_one, closure_more, Ruled}
use Rattle.derivations.specs.Steps.{Prefers}
use Rattle.derivations.proofs.Elements.{member_at, index_of}

-- a relation that holds more has the larger closure
pub closure_map : (R S : ℕ → ℕ → Type 0) → ((p q : ℕ) → R p q → S p q) → (p q : ℕ) → Closure R p q → Closure S p q
closure_map R S f p q (closure_one h) = closure_one (f p q h)
closure_map R S f p q (closure_more {y = y} h g) = closure_more (f p y h) (closure_map R S f y q g)

pub closure_iff : (R S : ℕ → ℕ → Type 0) → ((p q : ℕ) → R p q ↔ S p q) → (p q : ℕ) → Closure R p q ↔ Closure S p q
closure_iff R S f p q = (closure_map R S (λ x y. (f x y).0) p q, closure_map S R (λ x y. (f x y).1) p q)

-- what look-ups past the last rule give
abbrev pub no_rule : Rule
no_rule = record { upper = 0; relation = Priority; lower = 0 }

abbrev pub rule_at : List Rule → ℕ → Rule
rule_at rs k = get_or rs k no_rule

-- a rule is among the rules where it stands at an index
pub prefers_ruled : (rs : List Rule) (p q : ℕ) → ((k : ℕ) × (k < length rs) × Prefers (rule_at rs k) p q) ↔ Ruled rs p Priority q
prefers_ruled rs p q = (λ t. member_at _ _ rs t.0 t.1 t.2, λ m. index_of _ _ rs m)
