-- Lists that begin alike: what holds of productions and rules holds with more behind them.
use Rattle.std.proofs.Common.{◌≡◌, ℕ, ◌+◌, ◌<◌, ◌≤◌, List, [], ◌∷◌, ◌++◌, length, get_or, sym, refl, ap, ◌∙◌, subst, arith, length-append}
use mathlib.Core.List.Memᴰ
use Rattle.std.proofs.lemmas.List.{append_assoc, get_or_append_left, get_or_at}
use Rattle.std.proofs.lemmas.List.Sums.{sum_by-append}
use Rattle.grammar.specs.declared.rule.Relation.TheVariants.{Priority}
use Rattle.grammar.specs.Grammar.{Production, Rule, At, no_production, production_at, places}
use Rattle.grammar.specs.Order.{Above, Ruled}
use Rattle.grammar.specs.Derivations.{Nullable, nullable, Leads, LeadsOn}
use Rattle.derivations.proofs.Closing.{closure_map}

-- ---- an element of a list, what stands before it and what behind

module _ {X : Type 0} (xs before : List X) (x : X) (rest : List X) (e : xs ≡ before ++ x ∷ rest) where
  pub count_at : length xs ≡ length before + 1 + length rest
  count_at = ap length e ∙ simp length-append (omega arith)

  pub element_at : (d : X) → get_or xs (length before) d ≡ x
  element_at d = ap (λ l. get_or l (length before) d) e ∙ get_or_at before x rest d (length before) refl

  pub earlier_at : (k : ℕ) (d : X) → k < length before → get_or xs k d ≡ get_or before k d
  earlier_at k d h = ap (λ l. get_or l k d) e ∙ get_or_append_left before (x ∷ rest) d k h

  pub taken_in : xs ≡ (before ++ x ∷ []) ++ rest
  taken_in = e ∙ sym (append_assoc before (x ∷ []) rest)

-- ---- more productions

module _ (ps qs : List Production) where
  kept_at : (p : ℕ) → p < length ps → production_at (ps ++ qs) p ≡ production_at ps p
  kept_at p h = get_or_append_left ps qs no_production p h

  within : (p : ℕ) → p < length ps → p < length (ps ++ qs)
  within p h = simp length-append (omega arith)

  at_kept : (p k x : ℕ) → p < length ps → At (production_at (ps ++ qs) p).right k x → At (production_at ps p).right k x
  at_kept p k x h a = subst (λ (q : Production). At q.right k x) (kept_at p h) a

  nullable_more : {s : ℕ} → Nullable ps s → Nullable (ps ++ qs) s
  nullable_more (nullable {p = p} h e f) =
      nullable (within p h) (ap (λ (q : Production). q.left) (kept_at p h) ∙ e) (λ k x a. nullable_more (f k x (at_kept p k x h a)))

  leads_more : {A B : ℕ} → Leads ps A B → Leads (ps ++ qs) A B
  leads_more {A} {B} l =
      let p = l.by in
      record {
        by = p;
        known = within p l.known;
        of = ap (λ (q : Production). q.left) (kept_at p l.known) ∙ l.of;
        place = l.place;
        has = subst (λ (q : Production). At q.right l.place B) (sym (kept_at p l.known)) l.has;
        below = l.below;
        others = λ k x a other. nullable_more (l.others k x (at_kept p k x l.known a) other);
      }

  pub places_more : places ps ≤ places (ps ++ qs)
  places_more = omega (arith, sum_by-append (λ (p : Production). length p.right + 1) ps qs)

pub leads_on_more : (ps qs : List Production) (A B : ℕ) → LeadsOn ps A B → LeadsOn (ps ++ qs) A B
leads_on_more ps qs A B = closure_map (Leads ps) (Leads (ps ++ qs)) (λ x y. leads_more ps qs) A B

-- ---- more rules

pub above_more : (rs ss : List Rule) (p q : ℕ) → Above rs p q → Above (rs ++ ss) p q
above_more rs ss p q = closure_map (λ x y. Ruled rs x Priority y) (λ x y. Ruled (rs ++ ss) x Priority y) (λ x y m. Memᴰ.append_left ss m) p q
