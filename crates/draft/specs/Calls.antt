-- What a draft answers to a start, a production and a rule. Assumes nothing.
use Rattle.std.specs.Prelude.{◌≡◌, ℕ, suc, ◌-◌, ◌<◌, ◌≤◌, ◌⊎◌, List, [], ◌∷◌, ◌++◌, length, Result, slice_index}
use Rattle.grammar.specs.declared.refusals.DraftRefusal.{DraftRefusal}
use Rattle.grammar.specs.declared.refusals.Refusal.TheVariants.{Draft}
use Rattle.grammar.specs.declared.rule.Relation.{Relation}
use Rattle.grammar.specs.Grammar.{Production, Rule, Grammar, left_at, right_at, places, with_start, with_production, with_rule}
use Rattle.grammar.specs.Order.{Above, Says}
use Rattle.grammar.specs.Derivations.{LeadsOn}
use Rattle.grammar.specs.Refusals.{Answered}

-- why a start symbol is refused
pub data StartCause (symbol : ℕ) : ℕ → Type 0 where
  start_out_of_range : 15 < symbol → StartCause symbol 1

-- the answer to a start symbol
abbrev pub SetsStart : Grammar → ℕ → Result ℕ DraftRefusal → Grammar → Type 0
SetsStart g symbol = Answered Draft (StartCause symbol) (λ v after. (v ≡ symbol) × (after ≡ with_start g symbol)) g

-- a symbol of the production is none that there is
abbrev pub OutOfRange : Production → Type 0
OutOfRange p = (15 < p.left) ⊎ ((k : ℕ) × (k < length p.right) × (47 < slice_index p.right k))

abbrev pub TooLong : Production → Type 0
TooLong p = 6 < length p.right

-- there are 32 productions, or the places would pass 128
abbrev pub NoRoom : Grammar → Production → Type 0
NoRoom g p = (32 ≤ length g.productions) ⊎ (128 < places (g.productions ++ p ∷ []))

-- a production with these two sides is there
abbrev pub RepeatsSides : List Production → ℕ → List ℕ → Type 0
RepeatsSides ps left right = (q : ℕ) × (q < length ps) × (left_at ps q ≡ left) × (right_at ps q ≡ right)

abbrev pub Repeats : Grammar → Production → Type 0
Repeats g p = RepeatsSides g.productions p.left p.right

-- with the production, a nonterminal would lead to itself
abbrev pub Loops : Grammar → Production → Type 0
Loops g p = (A : ℕ) × LeadsOn (g.productions ++ p ∷ []) A A

-- why a production is refused
pub data ProductionCause (g : Grammar) (p : Production) : ℕ → Type 0 where
  symbol_out_of_range : OutOfRange p → ProductionCause g p 1
  right_too_long : TooLong p → ProductionCause g p 2
  productions_full : NoRoom g p → ProductionCause g p 3
  sides_repeated : Repeats g p → ProductionCause g p 4
  leads_to_itself : Loops g p → ProductionCause g p 5

-- the answer to a production: its number, which counts from 1
abbrev pub AddsProduction : Grammar → Production → Result ℕ DraftRefusal → Grammar → Type 0
AddsProduction g p = Answered Draft (ProductionCause g p) (λ v after. (v ≡ length after.productions) × (after ≡ with_production g p)) g

-- n is one of the numbers from 1 to the count
abbrev pub Names : ℕ → ℕ → Type 0
Names count n = (0 < n) × (n ≤ count)

-- the rule between the productions of these numbers
abbrev pub numbered : ℕ → Relation → ℕ → Rule
numbered upper relation lower = record { upper = upper - 1; relation = relation; lower = lower - 1 }

-- the rule between the productions of these numbers is there
abbrev pub RepeatsRule : Grammar → ℕ → Relation → ℕ → Type 0
RepeatsRule g upper relation lower = (p : ℕ) × (q : ℕ) × (upper ≡ suc p) × (lower ≡ suc q) × Says g.rules p relation q

-- one of the numbers is no production's
abbrev pub NamesNone : Grammar → ℕ → ℕ → Type 0
NamesNone g upper lower = (¬ Names (length g.productions) upper) ⊎ (¬ Names (length g.productions) lower)

-- with the rule, a production would have priority over itself
abbrev pub AboveItself : Grammar → Rule → Type 0
AboveItself g r = (p : ℕ) × Above (g.rules ++ r ∷ []) p p

-- why a rule is refused
pub data RuleCause (g : Grammar) (upper : ℕ) (relation : Relation) (lower : ℕ) : ℕ → Type 0 where
  rule_repeated : RepeatsRule g upper relation lower → RuleCause g upper relation lower 4
  names_no_production : NamesNone g upper lower → RuleCause g upper relation lower 6
  rules_full : 64 ≤ length g.rules → RuleCause g upper relation lower 7
  above_itself : AboveItself g (numbered upper relation lower) → RuleCause g upper relation lower 8

-- the answer to a rule: how many there are then
abbrev pub AddsRule : Grammar → ℕ → Relation → ℕ → Result ℕ DraftRefusal → Grammar → Type 0
AddsRule g upper relation lower =
    Answered Draft (RuleCause g upper relation lower) (λ v after. (v ≡ length after.rules) × (after ≡ with_rule g (numbered upper relation lower))) g
