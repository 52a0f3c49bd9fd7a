-- A = B A is accepted, and B = with nothing is refused after it. Assumes nothing.
use Rattle.std.proofs.Common.{◌≡◌, ℕ, zero, suc, ◌<◌, List, [], ◌∷◌, refl, subst, inl, inr, arith}
use native.Mathlib.Decide.{dec_lt}
use Rattle.grammar.specs.Grammar.{Production, At, right_at, empty_grammar}
use Rattle.grammar.specs.Derivations.{Nullable, nullable, Leads, LeadsOn}
use Rattle.grammar.specs.Order.{closure_one, closure_more}
use Rattle.draft.specs.Calls.{OutOfRange, NoRoom, Repeats, ProductionCause, leads_to_itself}
use Rattle.draft.proofs.Causes.{production_none}
use Rattle.examples.specs.Examples.{recursive, erasing, with_recursive, LeadingToItselfRefused}

module _ (price : ℕ) where
  abbrev alone : List Production
  alone = recursive price ∷ []

  -- both symbols of the one right side
  symbols : (p : ℕ) → p < 1 → At (right_at alone p) 0 1 × At (right_at alone p) 1 0
  symbols zero l = ((omega arith, refl), (omega arith, refl))
  symbols (suc p) l = absurd (omega arith)

  none_nullable : {s : ℕ} → Nullable alone s → ⊥
  none_nullable (nullable {p} l e h) = none_nullable (h 0 1 (symbols p l).0)

  none_leads : {A B : ℕ} → Leads alone A B → ⊥
  none_leads s =
      elim (dec_lt 0 s.place) [
        | yes l ↦ none_nullable (s.others 0 1 (symbols s.by s.known).0 (λ e. omega arith))
        | no l ↦ none_nullable (s.others 1 0 (symbols s.by s.known).1 (λ e. omega arith))
      ]

  none_leads_on : {A B : ℕ} → LeadsOn alone A B → ⊥
  none_leads_on (closure_one s) = none_leads s
  none_leads_on (closure_more s r) = none_leads s

  in_range : ¬ OutOfRange (recursive price)
  in_range (inl l) = omega arith
  in_range (inr (zero, l, m)) = omega arith
  in_range (inr (suc zero, l, m)) = omega arith
  in_range (inr (suc (suc k), l, m)) = omega arith

  has_room : ¬ NoRoom empty_grammar (recursive price)
  has_room (inl l) = omega arith
  has_room (inr l) = omega arith

  recursive_no_cause : (n : ℕ) → ¬ ProductionCause empty_grammar (recursive price) n
  recursive_no_cause n =
      production_none empty_grammar (recursive price) (suc n)
      (record { range = λ _. in_range; long = λ _ h. omega arith; room = λ _. has_room; repeats = λ _ h. omega (arith, h.1); loops = λ _ h. none_leads_on h.1 })
      n (omega arith)

module _ (price other : ℕ) where
  abbrev both : List Production
  both = recursive price ∷ erasing other ∷ []

  erases : Nullable both 1
  erases = nullable {p = 1} (omega arith) refl (λ k x h. absurd (omega (arith, h.0)))

  others_erase : (k x : ℕ) → At (right_at both 0) k x → (¬ (k ≡ 1)) → Nullable both x
  others_erase zero x h ne = subst (λ s. Nullable both s) h.1 erases
  others_erase (suc zero) x h ne = absurd (ne refl)
  others_erase (suc (suc k)) x h ne = absurd (omega (arith, h.0))

  leads : Leads both 0 0
  leads = record { by = 0; known = omega arith; of = refl; place = 1; has = (omega arith, refl); below = omega arith; others = others_erase }

  erasing_in_range : ¬ OutOfRange (erasing other)
  erasing_in_range (inl l) = omega arith
  erasing_in_range (inr (k, l, m)) = omega arith

  erasing_has_room : ¬ NoRoom (with_recursive price) (erasing other)
  erasing_has_room (inl l) = omega arith
  erasing_has_room (inr l) = omega arith

  erasing_new : ¬ Repeats (with_recursive price) (erasing other)
  erasing_new (zero, l, e, f) = omega (arith, e)
  erasing_new (suc q, l, e, f) = omega (arith, l)

  erasing_first_cause : (n : ℕ) → n < 5 → ¬ ProductionCause (with_recursive price) (erasing other) n
  erasing_first_cause =
      production_none (with_recursive price) (erasing other) 5
      (record { range = λ _. erasing_in_range; long = λ _ h. omega arith; room = λ _. erasing_has_room; repeats = λ _. erasing_new; loops = λ l. absurd (omega arith) })

pub leading_to_itself_refused : LeadingToItselfRefused
leading_to_itself_refused =
    (λ price. (recursive_no_cause price, (refl, refl)), λ price other. (leads_to_itself (0, closure_one (leads price other)), erasing_first_cause price other, refl))
