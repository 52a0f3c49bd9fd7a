-- Conflicts are decided.
use Rattle.std.proofs.Common.{◌≡◌, ℕ, zero, suc, ◌<◌, ◌≤◌, ◌⊎◌, List, length, sym, refl, ap, ◌∙◌, inl, inr, arith}
use mathlib.Core.List.{Memᴰ}
use mathlib.Core.Logic.Dec
use native.Mathlib.Decide.{dec_le, ℕ_discrete, map_dec}
use Rattle.grammar.specs.declared.rule.Relation.{Relation}
use Rattle.grammar.specs.declared.rule.Relation.TheVariants.{Priority, Left, Right, NonAssoc}
use Rattle.grammar.specs.Grammar.{Rule, Grammar, size_of}
use Rattle.grammar.specs.Order.{Closure, closure_one, closure_more, Ruled, Above, Beside, Conflict, conflict_above, conflict_first, conflict_last}
use Rattle.grammar.specs.Sound.{Named}
use Rattle.theory.specs.Decided.{ConflictsDecided}
use Rattle.theory.proofs.Decisions.{either, any, member?}
use Rattle.theory.proofs.Saturation.{upto, into_upto, least_set}

-- ---- the closure of a decided relation to numbers below n

closure_snoc : {R : ℕ → ℕ → Type 0} {x y z : ℕ} → Closure R x y → R y z → Closure R x z
closure_snoc (closure_one h) r = closure_more h (closure_one r)
closure_snoc (closure_more h c) r = closure_more h (closure_snoc c r)

module _ (R : ℕ → ℕ → Type 0) (decide : (x y : ℕ) → Dec (R x y)) (n : ℕ) (bounded : (x y : ℕ) → R x y → y < n) (x : ℕ) where
  -- y is one step from x or from an element of D
  abbrev Next : List ℕ → ℕ → Type 0
  Next D y = R x y ⊎ ((z : ℕ) × Memᴰ z D × R z y)

  next? : (D : List ℕ) (y : ℕ) → Dec (Next D y)
  next? D y = either (decide x y) (any (λ z. decide z y) D)

  next_closure : (D : List ℕ) (y : ℕ) → ((z : ℕ) → Memᴰ z D → Closure R x z) → Next D y → Closure R x y
  next_closure D y all (inl h) = closure_one h
  next_closure D y all (inr h) = closure_snoc (all h.0 h.1) h.2

  reached : (E : List ℕ) × ((y : ℕ) → Memᴰ y E → Closure R x y) × ((y : ℕ) → Memᴰ y (upto n) → Next E y → Memᴰ y E)
  reached = least_set (Closure R x) Next next? next_closure (upto n)

  reached_next : (u v : ℕ) → R u v → Next reached.0 v → Memᴰ v reached.0
  reached_next u v r h = reached.2 v (into_upto n v (let l = bounded u v r in omega arith)) h

  closure_reached : {u v : ℕ} → ((w : ℕ) → R u w → Memᴰ w reached.0) → Closure R u v → Memᴰ v reached.0
  closure_reached from (closure_one h) = from _ h
  closure_reached from (closure_more {y = y} h c) = closure_reached (λ w r. reached_next y w r (inr (y, from y h, r))) c

  pub closure? : (y : ℕ) → Dec (Closure R x y)
  closure? y = map_dec (reached.1 y) (closure_reached (λ w r. reached_next x w r (inl r))) (member? ℕ_discrete y reached.0)

-- ---- rules

abbrev code : Relation → ℕ
code Priority = 0
code Left = 1
code Right = 2
code NonAssoc = 3

abbrev decode : ℕ → Relation
decode zero = Priority
decode (suc zero) = Left
decode (suc (suc zero)) = Right
decode (suc (suc (suc n))) = NonAssoc

decode_code : (r : Relation) → decode (code r) ≡ r
decode_code Priority = refl
decode_code Left = refl
decode_code Right = refl
decode_code NonAssoc = refl

same_relation : (r s : Relation) → Dec (r ≡ s)
same_relation r s = map_dec (λ e. sym (decode_code r) ∙ ap decode e ∙ decode_code s) (ap code) (ℕ_discrete (code r) (code s))

same_rule : (r s : Rule) → Dec (r ≡ s)
same_rule r s =
    map_dec
    (λ h i. record { upper = h.0 i; relation = h.1.0 i; lower = h.1.1 i })
    (λ e. (ap (λ (x : Rule). x.upper) e, (ap (λ (x : Rule). x.relation) e, ap (λ (x : Rule). x.lower) e)))
    (Dec.and (ℕ_discrete r.upper s.upper) (Dec.and (same_relation r.relation s.relation) (ℕ_discrete r.lower s.lower)))

ruled? : (rs : List Rule) (p : ℕ) (r : Relation) (q : ℕ) → Dec (Ruled rs p r q)
ruled? rs p r q = member? same_rule (record { upper = p; relation = r; lower = q }) rs

beside? : (rs : List Rule) (p : ℕ) (r : Relation) (q : ℕ) → Dec (Beside rs p r q)
beside? rs p r q = either (ruled? rs p r q) (ruled? rs q r p)

-- the closed order of priority rules is decided
pub above? : (g : Grammar) → Named g → (p q : ℕ) → Dec (Above g.rules p q)
above? g named =
    closure? (λ p q. Ruled g.rules p Priority q) (λ p q. ruled? g.rules p Priority q) (length g.productions) (λ p q h. (named _ h).1)

-- ---- conflicts

abbrev Cases : Grammar → ℕ → ℕ → ℕ → Type 0
Cases g p k q =
    Above g.rules p q
    ⊎ (((2 ≤ size_of g p) × ((k ≡ 0) × (Beside g.rules p Right q ⊎ Beside g.rules p NonAssoc q)))
    ⊎ ((2 ≤ size_of g p) × ((suc k ≡ size_of g p) × (Beside g.rules p Left q ⊎ Beside g.rules p NonAssoc q))))

conflict_cases : {g : Grammar} {p k q : ℕ} → Conflict g p k q → Cases g p k q
conflict_cases (conflict_above h) = inl h
conflict_cases (conflict_first two is h) = inr (inl (two, (is, h)))
conflict_cases (conflict_last two is h) = inr (inr (two, (is, h)))

cases_conflict : {g : Grammar} {p k q : ℕ} → Cases g p k q → Conflict g p k q
cases_conflict (inl h) = conflict_above h
cases_conflict (inr (inl h)) = conflict_first h.0 h.1.0 h.1.1
cases_conflict (inr (inr h)) = conflict_last h.0 h.1.0 h.1.1

pub conflict? : ConflictsDecided
conflict? g named p k q =
    let two = dec_le 2 (size_of g p) in
    let non = beside? g.rules p NonAssoc q in
    map_dec
    cases_conflict
    conflict_cases
    (either
    (above? g named p q)
    (either
    (Dec.and two (Dec.and (ℕ_discrete k 0) (either (beside? g.rules p Right q) non)))
    (Dec.and two (Dec.and (ℕ_discrete (suc k) (size_of g p)) (either (beside? g.rules p Left q) non)))))
