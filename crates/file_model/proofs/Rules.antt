-- The lines of a well-formed grammar's rules are taken.
use Rattle.std.proofs.Common.{◌≡◌, ℕ, suc, ◌+◌, ◌-◌, ◌<◌, ◌≤◌, List, [], ◌∷◌, ◌++◌, map, length, take, Ok, sym, refl, ap, ◌∙◌, subst, inl, inr, arith}
use mathlib.Core.List.Memᴰ
use mathlib.Core.List.{Memᴰ}
use Rattle.std.proofs.lemmas.List.{take_at}
use Rattle.grammar.specs.Grammar.{Rule, Known, no_rule, rule_at, with_rule}
use Rattle.grammar.specs.Order.{Above, Says}
use Rattle.grammar.specs.Sound.{WellFormed}
use Rattle.draft.specs.Calls.{numbered, RuleCause}
use Rattle.draft.proofs.Causes.{rule_none}
use Rattle.syntax.proofs.Lines.{rule_length}
use Rattle.file_model.specs.Spelled.{Spelled}
use Rattle.file_model.specs.Files.{rule_form}
use Rattle.file_model.proofs.Prefixes.{count_at, element_at, taken_in, above_more}
use Rattle.file_model.proofs.Taken.{Taken, AllTaken, taken_each}

-- s with these rules in the place of its own
abbrev pub with_rules : Spelled → List Rule → Spelled
with_rules s rs = record { draft = record { start = s.draft.start; productions = s.draft.productions; rules = rs }; spellings = s.spellings }

-- the rule between the numbers of its two productions is the rule
same_numbered : (r : Rule) → r ≡ numbered (r.upper + 1) r.relation (r.lower + 1)
same_numbered r =
    let up : r.upper ≡ r.upper + 1 - 1 = omega arith in
    let low : r.lower ≡ r.lower + 1 - 1 = omega arith in
    ap (λ u. record { upper = u; relation = r.relation; lower = r.lower }) up
    ∙ ap (λ l. record { upper = r.upper + 1 - 1; relation = r.relation; lower = l }) low

module _ (s : Spelled) (sound : WellFormed s.draft) where
  abbrev rs : List Rule
  rs = s.draft.rules

  module _ (before : List Rule) (r : Rule) (rest : List Rule) (e : rs ≡ before ++ r ∷ rest) where
    known : length before < length rs
    known = omega (arith, count_at rs before r rest e)

    names : Known s.draft r.upper × Known s.draft r.lower
    names = sound.named r (subst (Memᴰ r) (sym e) (Memᴰ.append_right before (Memᴰ.head refl)))

    new_said : (p q : ℕ) → r.upper ≡ p → r.lower ≡ q → ¬ Says before p r.relation q
    new_said p q up low says =
        let here : r ≡ rule_at rs (length before) = sym (element_at rs before r rest e no_rule) in
        let front : before ≡ take (length before) rs = sym (ap (take (length before)) e ∙ take_at before (r ∷ rest) (length before) refl) in
        let said : Says before r.upper r.relation r.lower = rw (up, low) says in
        sound.unrepeated (length before) no_rule known
        (subst (λ (x : Rule). Says (take (length before) rs) x.upper x.relation x.lower) here
        (subst (λ (l : List Rule). Says l r.upper r.relation r.lower) front said))

    not_above : (p : ℕ) → ¬ Above (before ++ numbered (r.upper + 1) r.relation (r.lower + 1) ∷ []) p p
    not_above p h =
        let a : Above (before ++ r ∷ []) p p = subst (λ (x : Rule). Above (before ++ x ∷ []) p p) (sym (same_numbered r)) h in
        sound.ordered p (subst (λ (l : List Rule). Above l p p) (sym (taken_in rs before r rest e)) (above_more (before ++ r ∷ []) rest p p a))

    new_rule : (n : ℕ) → ¬ RuleCause (with_rules s before).draft (r.upper + 1) r.relation (r.lower + 1) n
    new_rule n =
        rule_none (with_rules s before).draft (r.upper + 1) r.relation (r.lower + 1) (suc n)
        (record {
          repeats = λ _ h. new_said h.0 h.1 (omega (arith, h.2)) (omega (arith, h.3)) h.4;
          names = λ _ o. elim o [ inl h ↦ h (omega arith, omega (arith, names.0)) | inr h ↦ h (omega arith, omega (arith, names.1)) ];
          room = λ _ h. omega (arith, known, sound.small.2);
          above = λ _ h. not_above h.0 h.1;
        })
        n (omega arith)

    rule_taken : Taken (with_rules s before) (rule_form r) (with_rules s (before ++ r ∷ []))
    rule_taken =
        let up : r.upper + 1 ≤ 32 = omega (arith, names.0, sound.small.0) in
        let low : r.lower + 1 ≤ 32 = omega (arith, names.1, sound.small.0) in
        record {
          valid = (omega arith, omega arith);
          short = omega (arith, rule_length (r.upper + 1) r.relation (r.lower + 1) (omega arith) (omega arith));
          does = (Ok (length (before ++ r ∷ [])), (new_rule, (refl, ap (with_rule (with_rules s before).draft) (same_numbered r))), refl, refl);
        }

  pub rules_taken : AllTaken (with_rules s []) (map rule_form rs) s
  rules_taken = taken_each (with_rules s) rule_form rs rule_taken
