-- What is accepted keeps a grammar well formed. Assumes nothing.
use Rattle.std.proofs.Common.{◌≡◌, ℕ, ◌+◌, ◌-◌, ◌<◌, ◌≤◌, List, [], ◌∷◌, ◌++◌, length, get_or, take, sym, ap, ◌∙◌, subst, inl, inr, ⊎_elim, arith}
use mathlib.Core.List.Memᴰ
use native.Mathlib.Decide.{dec_lt}
use Rattle.std.proofs.lemmas.List.{get_or_append_left, get_or_push, length_push, take-append-le, take_at}
use Rattle.grammar.specs.declared.rule.Relation.{Relation}
use Rattle.grammar.specs.Grammar.{Production, Rule, Grammar, Nonterminal, no_production, production_at, left_at, right_at, places, with_start, with_production, with_rule}
use Rattle.grammar.specs.Order.{Says}
use Rattle.grammar.specs.Sound.{Apart, RulesApart, WellFormed}
use Rattle.draft.specs.Calls.{OutOfRange, TooLong, NoRoom, Repeats, Loops, Names, numbered, RepeatsRule, AboveItself}

abbrev left : Production → ℕ
left p = p.left

abbrev right : Production → List ℕ
right p = p.right

abbrev upper_of : Rule → ℕ
upper_of r = r.upper

abbrev lower_of : Rule → ℕ
lower_of r = r.lower

-- ---- a production more

module _ (ps : List Production) (p : Production) where
  -- what stands at an index of the longer list
  old_at : (k : ℕ) → k < length ps → production_at (ps ++ p ∷ []) k ≡ production_at ps k
  old_at k h = get_or_append_left ps (p ∷ []) no_production k h

  new_at : (k : ℕ) → k ≡ length ps → production_at (ps ++ p ∷ []) k ≡ p
  new_at k e = get_or_push ps p no_production k (sym e)

  -- what holds of each production and of the new one holds of each of the longer list
  pub each_more : (P : Production → Type 0) → ((k : ℕ) → k < length ps → P (production_at ps k)) → P p → (k : ℕ) → k < length (ps ++ p ∷ []) → P (production_at (ps ++ p ∷ []) k)
  each_more P old new k h =
      elim (dec_lt k (length ps)) [
        | yes l ↦ subst P (sym (old_at k l)) (old k l)
        | no l ↦ subst P (sym (new_at k (omega (arith, length_push ps p)))) new
      ]

  pub apart_more : Apart ps → (¬ ((q : ℕ) × (q < length ps) × (left_at ps q ≡ p.left) × (right_at ps q ≡ p.right))) → Apart (ps ++ p ∷ [])
  apart_more old fresh j k a =
      let lj : j < length ps + 1 = omega (arith, length_push ps p, a.0) in
      let lk : k < length ps + 1 = omega (arith, length_push ps p, a.1) in
      elim (dec_lt j (length ps)) [
        | yes hj ↦ elim (dec_lt k (length ps)) [
          | yes hk ↦
              let ej = old_at j hj in
              let ek = old_at k hk in
              old j k (hj, hk, sym (ap left ej) ∙ a.2 ∙ ap left ek, sym (ap right ej) ∙ a.3 ∙ ap right ek)
          | no hk ↦
              let ej = old_at j hj in
              let ek = new_at k (omega arith) in
              absurd (fresh (j, hj, sym (ap left ej) ∙ a.2 ∙ ap left ek, sym (ap right ej) ∙ a.3 ∙ ap right ek))
        ]
        | no hj ↦ elim (dec_lt k (length ps)) [
          | yes hk ↦
              let ej = new_at j (omega arith) in
              let ek = old_at k hk in
              absurd (fresh (k, hk, sym (ap left ek) ∙ sym a.2 ∙ ap left ej, sym (ap right ek) ∙ sym a.3 ∙ ap right ej))
          | no hk ↦ omega arith
        ]
      ]

pub production_kept :
    (g : Grammar) (p : Production) →
    WellFormed g →
    (¬ OutOfRange p) →
    (¬ TooLong p) →
    (¬ NoRoom g p) →
    (¬ Repeats g p) →
    (¬ Loops g p) →
    p.price ≤ 65535 →
    WellFormed (with_production g p)
production_kept g p w range short room fresh loops price =
    let ps = g.productions in
    let few : ¬ (32 ≤ length ps) = λ h. room (inl h) in
    let fit : ¬ (128 < places (ps ++ p ∷ [])) = λ h. room (inr h) in
    let low : ¬ (15 < p.left) = λ h. range (inl h) in
    record {
      small = (omega (arith, length_push ps p), omega arith, w.small.2);
      starts = w.starts;
      sides = each_more ps p (λ q. Nonterminal q.left × (length q.right ≤ 6)) w.sides (omega arith, omega arith);
      symbols = λ k i h. each_more ps p (λ q. (i : ℕ) → i < length q.right → get_or q.right i 0 < 48) (λ j l i. w.symbols j i l)
          (λ j l. let no : ¬ (47 < get_or p.right j 0) = λ h. range (inr (j, l, h)) in omega arith) k h i;
      prices = each_more ps p (λ q. q.price ≤ 65535) w.prices price;
      apart = apart_more ps p w.apart fresh;
      named = λ r m. let n = w.named r m in (omega (arith, length_push ps p, n.0), omega (arith, length_push ps p, n.1));
      unrepeated = w.unrepeated;
      acyclic = λ A h. loops (A, h);
      ordered = w.ordered;
    }

pub start_kept : (g : Grammar) (s : ℕ) → WellFormed g → s ≤ 15 → WellFormed (with_start g s)
start_kept g s w h =
    record {
      small = w.small;
      starts = omega arith;
      sides = w.sides;
      symbols = w.symbols;
      prices = w.prices;
      apart = w.apart;
      named = w.named;
      unrepeated = w.unrepeated;
      acyclic = w.acyclic;
      ordered = w.ordered;
    }

-- ---- a rule more

unrepeated_more : (rs : List Rule) (r : Rule) → RulesApart rs → (¬ Says rs r.upper r.relation r.lower) → RulesApart (rs ++ r ∷ [])
unrepeated_more rs r old fresh k d h says =
    elim (dec_lt k (length rs)) [
      | yes l ↦
          let e : get_or (rs ++ r ∷ []) k d ≡ get_or rs k d = get_or_append_left rs (r ∷ []) d k l in
          let t : take k (rs ++ r ∷ []) ≡ take k rs = take-append-le k rs (r ∷ []) (omega arith) in
          old k d l (subst (λ (x : Rule). Says (take k rs) x.upper x.relation x.lower) e (subst (λ (ys : List Rule). let x = get_or (rs ++ r ∷ []) k d in Says ys x.upper x.relation x.lower) t says))
      | no l ↦
          let n : k ≡ length rs = omega (arith, length_push rs r) in
          let e : get_or (rs ++ r ∷ []) k d ≡ r = get_or_push rs r d k (sym n) in
          let t : take k (rs ++ r ∷ []) ≡ rs = take_at rs (r ∷ []) k (sym n) in
          fresh (subst (λ (x : Rule). Says rs x.upper x.relation x.lower) e (subst (λ (ys : List Rule). let x = get_or (rs ++ r ∷ []) k d in Says ys x.upper x.relation x.lower) t says))
    ]

pub rule_kept :
    (g : Grammar) (upper : ℕ) (relation : Relation) (lower : ℕ) →
    WellFormed g →
    Names (length g.productions) upper →
    Names (length g.productions) lower →
    (¬ (64 ≤ length g.rules)) →
    (¬ RepeatsRule g upper relation lower) →
    (¬ AboveItself g (numbered upper relation lower)) →
    WellFormed (with_rule g (numbered upper relation lower))
rule_kept g upper relation lower w up low room fresh above =
    let rs = g.rules in
    let r = numbered upper relation lower in
    record {
      small = (w.small.0, w.small.1, omega (arith, length_push rs r));
      starts = w.starts;
      sides = w.sides;
      symbols = w.symbols;
      prices = w.prices;
      apart = w.apart;
      named = λ x m.
          ⊎_elim (λ old. w.named x old)
          (λ new.
          let e : x ≡ r = Memᴰ.eq_of_singleton new in
          (omega (arith, ap upper_of e), omega (arith, ap lower_of e)))
          (Memᴰ.append_cases rs m);
      unrepeated = unrepeated_more rs r w.unrepeated (λ says. fresh (upper - 1, lower - 1, omega arith, omega arith, says));
      acyclic = w.acyclic;
      ordered = λ p h. above (p, h);
    }
