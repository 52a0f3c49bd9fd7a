-- When no cause below a number applies. Assumes nothing.
use Rattle.std.proofs.Common.{◌≡◌, ℕ, ◌<◌, ◌≤◌, length, Ok, Err, Result, sym, refl, subst, ⊎_elim, arith}
use Rattle.grammar.specs.declared.refusals.DraftRefusal.{DraftRefusal}
use Rattle.grammar.specs.declared.refusals.DraftRefusal.TheVariants.{NoProduction}
use Rattle.grammar.specs.declared.rule.Relation.{Relation}
use Rattle.grammar.specs.Grammar.{Production, Grammar, Known, with_start}
use Rattle.grammar.specs.Sound.{Named}
use Rattle.draft.specs.Calls.{SetsStart, StartCause, start_out_of_range, OutOfRange, TooLong, NoRoom, Repeats, Loops, ProductionCause, symbol_out_of_range, right_too_long, productions_full, sides_repeated, leads_to_itself, RepeatsRule, NamesNone, AboveItself, numbered, AddsRule, RuleCause, rule_repeated, names_no_production, rules_full, above_itself}
use Rattle.draft.proofs.Rules.{says_cases}

pub start_none : (symbol m : ℕ) → (1 < m → ¬ (15 < symbol)) → (n : ℕ) → n < m → ¬ StartCause symbol n
start_none symbol m one n l (start_out_of_range h) = one l h

-- a start symbol in range is always taken
pub start_taken : (g : Grammar) (symbol : ℕ) (r : Result ℕ DraftRefusal) (h : Grammar) → symbol < 16 → SetsStart g symbol r h → h ≡ with_start g symbol
start_taken g symbol (Ok v) h l a = a.1.1
start_taken g symbol (Err e) h l a = absurd (out a.0)
  where
    out : {n : ℕ} → StartCause symbol n → ⊥
    out (start_out_of_range k) = omega arith

module _ (g : Grammar) (p : Production) where
  -- of the causes below m each is excluded
  pub record Excluded (m : ℕ) : Type 0 where
    pub range : 1 < m → ¬ OutOfRange p
    pub long : 2 < m → ¬ TooLong p
    pub room : 3 < m → ¬ NoRoom g p
    pub repeats : 4 < m → ¬ Repeats g p
    pub loops : 5 < m → ¬ Loops g p

  pub below_one : Excluded 1
  below_one = record { range = λ l. absurd (omega arith); long = λ l. absurd (omega arith); room = λ l. absurd (omega arith); repeats = λ l. absurd (omega arith); loops = λ l. absurd (omega arith) }

  pub below_two : (¬ OutOfRange p) → Excluded 2
  below_two a = record { range = λ _. a; long = λ l. absurd (omega arith); room = λ l. absurd (omega arith); repeats = λ l. absurd (omega arith); loops = λ l. absurd (omega arith) }

  pub below_three : (¬ OutOfRange p) → (¬ TooLong p) → Excluded 3
  below_three a b = record { range = λ _. a; long = λ _. b; room = λ l. absurd (omega arith); repeats = λ l. absurd (omega arith); loops = λ l. absurd (omega arith) }

  pub below_four : (¬ OutOfRange p) → (¬ TooLong p) → (¬ NoRoom g p) → Excluded 4
  below_four a b c = record { range = λ _. a; long = λ _. b; room = λ _. c; repeats = λ l. absurd (omega arith); loops = λ l. absurd (omega arith) }

  pub production_none : (m : ℕ) → Excluded m → (n : ℕ) → n < m → ¬ ProductionCause g p n
  production_none m e n l (symbol_out_of_range h) = e.range l h
  production_none m e n l (right_too_long h) = e.long l h
  production_none m e n l (productions_full h) = e.room l h
  production_none m e n l (sides_repeated h) = e.repeats l h
  production_none m e n l (leads_to_itself h) = e.loops l h

module _ (g : Grammar) (upper : ℕ) (relation : Relation) (lower : ℕ) where
  pub record RuleExcluded (m : ℕ) : Type 0 where
    pub repeats : 4 < m → ¬ RepeatsRule g upper relation lower
    pub names : 6 < m → ¬ NamesNone g upper lower
    pub room : 7 < m → ¬ (64 ≤ length g.rules)
    pub above : 8 < m → ¬ AboveItself g (numbered upper relation lower)

  pub below_repeat : RuleExcluded 4
  below_repeat = record { repeats = λ l. absurd (omega arith); names = λ l. absurd (omega arith); room = λ l. absurd (omega arith); above = λ l. absurd (omega arith) }

  pub below_names : (¬ RepeatsRule g upper relation lower) → RuleExcluded 6
  below_names a = record { repeats = λ _. a; names = λ l. absurd (omega arith); room = λ l. absurd (omega arith); above = λ l. absurd (omega arith) }

  pub below_full : (¬ RepeatsRule g upper relation lower) → (¬ NamesNone g upper lower) → RuleExcluded 7
  below_full a b = record { repeats = λ _. a; names = λ _. b; room = λ l. absurd (omega arith); above = λ l. absurd (omega arith) }

  pub rule_none : (m : ℕ) → RuleExcluded m → (n : ℕ) → n < m → ¬ RuleCause g upper relation lower n
  rule_none m e n l (rule_repeated h) = e.repeats l h
  rule_none m e n l (names_no_production h) = e.names l h
  rule_none m e n l (rules_full h) = e.room l h
  rule_none m e n l (above_itself h) = e.above l h

  -- a rule that is there names productions
  repeats_named : Named g → RepeatsRule g upper relation lower → ¬ NamesNone g upper lower
  repeats_named named s none =
      let both : Known g s.0 × Known g s.1 =
      ⊎_elim (λ m. named _ m) (λ m. let k = named _ m.1 in (k.1, k.0)) (says_cases g.rules s.0 s.1 relation s.4) in
      ⊎_elim (λ no. no (omega (arith, s.2), omega (arith, s.2, both.0))) (λ no. no (omega (arith, s.3), omega (arith, s.3, both.1))) none

  -- the answer where a number is no production's
  pub names_refused : Named g → NamesNone g upper lower → (r : Result ℕ DraftRefusal) → r ≡ Err NoProduction → AddsRule g upper relation lower r g
  names_refused named a r e =
      subst (λ x. AddsRule g upper relation lower x g) (sym e) (names_no_production a, rule_none 6 (below_names (λ s. repeats_named named s a)), refl)
