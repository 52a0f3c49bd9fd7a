-- The closed order of priority rules and the conflicts of a grammar, computed.
use Rattle.std.proofs.Common.{◌≡◌, ℕ, zero, suc, ◌≤◌, Bool, true, ◌&&◌, ◌||◌, eqb, ltb, ◌⊎◌, List, [], ◌∷◌, ◌++◌, length, Decides, All, sym, refl, ap, ◌∙◌, subst, inl, inr}
use mathlib.Core.List.{Memᴰ}
use Rattle.std.specs.List.{flat_map}
use Rattle.std.proofs.lemmas.List.Elements.{All-nil, All-head, All-append}
use Rattle.std.proofs.lemmas.Bool.{and_parts, eqb-true, eq-eqb}
use Rattle.std.proofs.lemmas.Bool.Decides.{Decides-like, Decides-and, Decides-or, Decides-eqb, Decides-ltb}
use Rattle.grammar.specs.declared.rule.Relation.{Relation}
use Rattle.grammar.specs.declared.rule.Relation.TheVariants.{Priority, Left, Right, NonAssoc}
use Rattle.grammar.specs.Grammar.{Rule, Grammar, size_of}
use Rattle.grammar.specs.Order.{closure_one, closure_more, Ruled, Above, Beside, Conflict, conflict_above, conflict_first, conflict_last}
use Rattle.small_grammars.proofs.Sets.{any, decides_in, when, all_of, all_parts, when_all, all_when, joined_all, all_joined, subset, saturate, saturate_all, subset_all}

-- ---- rules

abbrev code : Relation → ℕ
code Priority = 0
code Left = 1
code Right = 2
code NonAssoc = 3

abbrev decode : ℕ → Relation
decode zero = Priority
decode (suc zero) = Left
decode (suc (suc zero)) = Right
decode (suc (suc (suc n))) = NonAssoc

decode_code : (r : Relation) → decode (code r) ≡ r
decode_code Priority = refl
decode_code Left = refl
decode_code Right = refl
decode_code NonAssoc = refl

abbrev same_relation : Relation → Relation → Bool
same_relation r s = eqb (code r) (code s)

decides_relation : (r s : Relation) → Decides (same_relation r s) (r ≡ s)
decides_relation r s = Decides-like _ (λ e. sym (decode_code r) ∙ ap decode e ∙ decode_code s) (ap code) (Decides-eqb (code r) (code s))

abbrev same_rule : Rule → Rule → Bool
same_rule r s = eqb r.upper s.upper && (same_relation r.relation s.relation && eqb r.lower s.lower)

decides_rule : (r s : Rule) → Decides (same_rule r s) (r ≡ s)
decides_rule r s =
    Decides-like
    _
    (λ h i. record { upper = h.0 i; relation = h.1.0 i; lower = h.1.1 i })
    (λ e. (ap (λ (x : Rule). x.upper) e, (ap (λ (x : Rule). x.relation) e, ap (λ (x : Rule). x.lower) e)))
    (Decides-and _ _ (Decides-eqb r.upper s.upper) (Decides-and _ _ (decides_relation r.relation s.relation) (Decides-eqb r.lower s.lower)))

abbrev ruled : List Rule → ℕ → Relation → ℕ → Bool
ruled rs p r q = any (same_rule (record { upper = p; relation = r; lower = q })) rs

decides_ruled : (rs : List Rule) (p : ℕ) (r : Relation) (q : ℕ) → Decides (ruled rs p r q) (Ruled rs p r q)
decides_ruled rs p r q = decides_in same_rule decides_rule (record { upper = p; relation = r; lower = q }) rs

abbrev beside : List Rule → ℕ → Relation → ℕ → Bool
beside rs p r q = ruled rs p r q || ruled rs q r p

decides_beside : (rs : List Rule) (p : ℕ) (r : Relation) (q : ℕ) → Decides (beside rs p r q) (Beside rs p r q)
decides_beside rs p r q = Decides-or _ _ (decides_ruled rs p r q) (decides_ruled rs q r p)

-- one of two relations
abbrev beside_either : List Rule → ℕ → Relation → Relation → ℕ → Bool
beside_either rs p r s q = beside rs p r q || beside rs p s q

decides_either : (rs : List Rule) (p : ℕ) (r s : Relation) (q : ℕ) → Decides (beside_either rs p r s q) (Beside rs p r q ⊎ Beside rs p s q)
decides_either rs p r s q = Decides-or _ _ (decides_beside rs p r q) (decides_beside rs p s q)

-- ---- the closed order

abbrev same_pair : ℕ × ℕ → ℕ × ℕ → Bool
same_pair x y = eqb x.0 y.0 && eqb x.1 y.1

decides_pair : (x y : ℕ × ℕ) → Decides (same_pair x y) (x ≡ y)
decides_pair x y =
    Decides-like
    _
    (λ h i. (h.0 i, h.1 i))
    (λ e. (ap (λ (z : ℕ × ℕ). z.0) e, ap (λ (z : ℕ × ℕ). z.1) e))
    (Decides-and _ _ (Decides-eqb x.0 y.0) (Decides-eqb x.1 y.1))

abbrev is_priority : Rule → Bool
is_priority r = same_relation r.relation Priority

-- the pairs that follow from one rule and the pairs of D
abbrev above_by : List (ℕ × ℕ) → Rule → List (ℕ × ℕ)
above_by D r = when (is_priority r) (r.upper, r.lower) ++ flat_map (λ d. when (is_priority r && eqb r.lower d.0) (r.upper, d.1)) D

abbrev above_step : List Rule → List (ℕ × ℕ) → List (ℕ × ℕ)
above_step rs D = flat_map (above_by D) rs

abbrev pub above : Grammar → List (ℕ × ℕ)
above g = saturate same_pair (above_step g.rules) (length g.rules) []

-- nothing more follows
abbrev pub above_closed : Grammar → Bool
above_closed g = subset same_pair (above_step g.rules (above g)) (above g)

abbrev AbovePair : List Rule → ℕ × ℕ → Type 0
AbovePair rs d = Above rs d.0 d.1

priority_rule : {rs : List Rule} (r : Rule) → Memᴰ r rs → is_priority r ≡ true → Ruled rs r.upper Priority r.lower
priority_rule {rs} r m e = subst (λ s. Ruled rs r.upper s r.lower) ((decides_relation r.relation Priority).0 e) m

above_keeps : (rs : List Rule) (D : List (ℕ × ℕ)) → All (AbovePair rs) D → All (AbovePair rs) (above_step rs D)
above_keeps rs D h =
    joined_all (AbovePair rs) (above_by D) rs (λ r m.
    All-append (AbovePair rs) _ _
    (when_all (AbovePair rs) _ _ (λ e. closure_one (priority_rule r m e)))
    (joined_all (AbovePair rs) _ D (λ d n.
    when_all (AbovePair rs) _ _ (λ e.
    let both = and_parts (is_priority r) (eqb r.lower d.0) e in
    let joint = eqb-true r.lower d.0 both.1 in
    closure_more (priority_rule r m both.0) (subst (λ n. Above rs n d.1) (sym joint) (all_of (AbovePair rs) D h n))))))

above_in :
    (rs : List Rule) (D : List (ℕ × ℕ)) →
    All (λ d. Memᴰ d D) (above_step rs D) →
    {p q : ℕ} →
    Above rs p q →
    Memᴰ (p, q) D
above_in rs D h (closure_one {x = x} {y = y} r) =
    let here = all_joined (λ d. Memᴰ d D) (above_by D) rs h r in
    All-head (λ d. Memᴰ d D) (x, y) [] (all_parts (λ d. Memᴰ d D) ((x, y) ∷ []) (flat_map (λ d. when (eqb y d.0) (x, d.1)) D) here).0
above_in rs D h (closure_more {x = x} {y = y} {z = z} r c) =
    let here = all_joined (λ d. Memᴰ d D) (above_by D) rs h r in
    let more = (all_parts (λ d. Memᴰ d D) ((x, y) ∷ []) (flat_map (λ d. when (eqb y d.0) (x, d.1)) D) here).1 in
    all_when (λ d. Memᴰ d D) (eqb y y) (x, z) (all_joined (λ d. Memᴰ d D) (λ d. when (eqb y d.0) (x, d.1)) D more (above_in rs D h c)) (eq-eqb y y refl)

-- A has exactly the pairs of the closed order
abbrev pub AboveExact : Grammar → List (ℕ × ℕ) → Type 0
AboveExact g A = (p q : ℕ) → Decides (any (same_pair (p, q)) A) (Above g.rules p q)

pub above_exact : (g : Grammar) → above_closed g ≡ true → AboveExact g (above g)
above_exact g closed p q =
    Decides-like
    _
    (all_of (AbovePair g.rules) (above g) (saturate_all same_pair (AbovePair g.rules) (above_step g.rules) (above_keeps g.rules) (length g.rules) [] (All-nil (AbovePair g.rules))))
    (above_in g.rules (above g) (subset_all same_pair decides_pair (above_step g.rules (above g)) (above g) closed))
    (decides_in same_pair decides_pair (p, q) (above g))

-- ---- conflicts

abbrev pub conflicts : Grammar → List (ℕ × ℕ) → ℕ → ℕ → ℕ → Bool
conflicts g A p k q =
    any (same_pair (p, q)) A
    || (ltb 1 (size_of g p)
    && ((eqb k 0 && beside_either g.rules p Right NonAssoc q) || (eqb (suc k) (size_of g p) && beside_either g.rules p Left NonAssoc q)))

abbrev Cases : Grammar → ℕ → ℕ → ℕ → Type 0
Cases g p k q =
    Above g.rules p q
    ⊎ ((2 ≤ size_of g p)
    × (((k ≡ 0) × (Beside g.rules p Right q ⊎ Beside g.rules p NonAssoc q))
    ⊎ ((suc k ≡ size_of g p) × (Beside g.rules p Left q ⊎ Beside g.rules p NonAssoc q))))

conflict_cases : {g : Grammar} {p k q : ℕ} → Conflict g p k q → Cases g p k q
conflict_cases (conflict_above h) = inl h
conflict_cases (conflict_first two is h) = inr (two, inl (is, h))
conflict_cases (conflict_last two is h) = inr (two, inr (is, h))

cases_conflict : {g : Grammar} {p k q : ℕ} → Cases g p k q → Conflict g p k q
cases_conflict (inl h) = conflict_above h
cases_conflict (inr (two, inl (is, h))) = conflict_first two is h
cases_conflict (inr (two, inr (is, h))) = conflict_last two is h

pub decides_conflict : (g : Grammar) (A : List (ℕ × ℕ)) → AboveExact g A → (p k q : ℕ) → Decides (conflicts g A p k q) (Conflict g p k q)
decides_conflict g A exact p k q =
    Decides-like
    _
    cases_conflict
    conflict_cases
    (Decides-or _ _ (exact p q)
    (Decides-and _ _ (Decides-ltb 1 (size_of g p))
    (Decides-or _ _ (Decides-and _ _ (Decides-eqb k 0) (decides_either g.rules p Right NonAssoc q))
    (Decides-and _ _ (Decides-eqb (suc k) (size_of g p)) (decides_either g.rules p Left NonAssoc q)))))
