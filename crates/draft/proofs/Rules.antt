-- Stored rules and what they say. Assumes nothing.
use Rattle.std.proofs.Common.{◌≡◌, ℕ, zero, suc, ◌-◌, ◌<◌, ◌⊎◌, List, [], ◌∷◌, length, get_or, sym, refl, ap, ◌∙◌, inl, inr, ⊎_elim, arith}
use mathlib.Core.List.{Memᴰ}
use Rattle.std.proofs.lemmas.List.{length-map, get_or-map}
use Rattle.grammar.specs.declared.rule.Relation.{Relation}
use Rattle.grammar.specs.declared.rule.Relation.TheVariants.{Priority, Left, Right, NonAssoc}
use Rattle.grammar.specs.declared.rule.Rule.{Rule as Numbered}
use Rattle.grammar.specs.Grammar.{Rule, no_rule}
use Rattle.grammar.specs.Model.{rule, rules}
use Rattle.grammar.specs.Order.{Ruled, Says}
use Rattle.draft.specs.Stored.{Numbers, SameRule}

pub mem_at : {A : Type 0} (xs : List A) (k : ℕ) (d : A) → k < length xs → Memᴰ (get_or xs k d) xs
mem_at [] k d h = absurd (omega arith)
mem_at (x ∷ xs) zero d h = mathlib.Core.List.Memᴰ.head refl
mem_at (x ∷ xs) (suc k) d h = mathlib.Core.List.Memᴰ.tail (mem_at xs k d (omega arith))

pub at_mem : {A : Type 0} {x : A} {xs : List A} (d : A) → Memᴰ x xs → (k : ℕ) × (k < length xs) × (get_or xs k d ≡ x)
at_mem d (mathlib.Core.List.Memᴰ.head e) = (0, omega arith, sym e)
at_mem d (mathlib.Core.List.Memᴰ.tail m) = let r = at_mem d m in (suc r.0, omega (arith, r.1), r.2)

module _ (rs : List Rule) (p q : ℕ) where
  pub says_same : (r : Relation) → Ruled rs p r q → Says rs p r q
  says_same Priority h = h
  says_same Left h = inl h
  says_same Right h = inl h
  says_same NonAssoc h = inl h

  pub says_mirrored : (r : Relation) → (¬ (r ≡ Priority)) → Ruled rs q r p → Says rs p r q
  says_mirrored Priority n h = absurd (n refl)
  says_mirrored Left n h = inr h
  says_mirrored Right n h = inr h
  says_mirrored NonAssoc n h = inr h

  pub says_cases : (r : Relation) → Says rs p r q → Ruled rs p r q ⊎ ((¬ (r ≡ Priority)) × Ruled rs q r p)
  says_cases Priority h = inl h
  says_cases Left h = ⊎_elim (λ a. inl a) (λ b. inr (λ (e : Left ≡ Priority). let z : ◌≡◌ {A = ℕ} 0 1 = cc in omega arith, b)) h
  says_cases Right h = ⊎_elim (λ a. inl a) (λ b. inr (λ (e : Right ≡ Priority). let z : ◌≡◌ {A = ℕ} 0 1 = cc in omega arith, b)) h
  says_cases NonAssoc h = ⊎_elim (λ a. inl a) (λ b. inr (λ (e : NonAssoc ≡ Priority). let z : ◌≡◌ {A = ℕ} 0 1 = cc in omega arith, b)) h

-- what a look-up past the last stored rule gives
abbrev pub no_numbered : Numbered
no_numbered = record { upper = 0; relation = Priority; lower = 0 }

abbrev upper_of : Rule → ℕ
upper_of r = r.upper

abbrev lower_of : Rule → ℕ
lower_of r = r.lower

abbrev relation_of : Rule → Relation
relation_of r = r.relation

module _ (xs : List Numbered) (count : ℕ) (numbers : Numbers xs (length xs) count) (upper : ℕ) (relation : Relation) (lower : ℕ) where
  -- the rules say it
  abbrev Said : Type 0
  Said = (p : ℕ) × (q : ℕ) × (upper ≡ suc p) × (lower ≡ suc q) × Says (rules xs) p relation q

  pub says_it : (i : ℕ) (d : Numbered) → i < length xs → SameRule (get_or xs i d) upper relation lower → Said
  says_it i d h same =
      let x = get_or xs i d in
      let b = numbers i d h in
      let m : Memᴰ (rule x) (rules xs) =
      mathlib.Core.List.Memᴰ.cast (sym (get_or-map rule xs i d no_rule h)) (mem_at (rules xs) i no_rule (omega (arith, length-map xs rule))) in
      ⊎_elim
      (λ (s : (x.upper ≡ upper) × (x.lower ≡ lower)). (
        upper - 1,
        lower - 1,
        omega (arith, b.0, s.0),
        omega (arith, b.2, s.1),
        says_same (rules xs) (upper - 1) (lower - 1) relation
            (mathlib.Core.List.Memᴰ.cast (sym (ap (λ u. record { upper = u - 1; relation = x.relation; lower = x.lower - 1 }) s.0 ∙ ap (λ l. record { upper = upper - 1; relation = x.relation; lower = l - 1 }) s.1 ∙ ap (λ (r : Relation). record { upper = upper - 1; relation = r; lower = lower - 1 }) same.0)) m),
      ))
      (λ (s : (¬ (relation ≡ Priority)) × (x.upper ≡ lower) × (x.lower ≡ upper)). (
        upper - 1,
        lower - 1,
        omega (arith, b.2, s.2),
        omega (arith, b.0, s.1),
        says_mirrored (rules xs) (upper - 1) (lower - 1) relation s.0
            (mathlib.Core.List.Memᴰ.cast (sym (ap (λ u. record { upper = u - 1; relation = x.relation; lower = x.lower - 1 }) s.1 ∙ ap (λ l. record { upper = lower - 1; relation = x.relation; lower = l - 1 }) s.2 ∙ ap (λ (r : Relation). record { upper = lower - 1; relation = r; lower = upper - 1 }) same.0)) m),
      ))
      same.1

  found : (d : Numbered) (p q : ℕ) → Ruled (rules xs) p relation q → (i : ℕ) × (i < length xs) × ((get_or xs i d).relation ≡ relation) × ((get_or xs i d).upper ≡ suc p) × ((get_or xs i d).lower ≡ suc q)
  found d p q m =
      let r = at_mem no_rule m in
      let l : r.0 < length xs = omega (arith, length-map xs rule, r.1) in
      let e = sym (get_or-map rule xs r.0 d no_rule l) ∙ r.2 in
      let b = numbers r.0 d l in
      (r.0, l, ap relation_of e, omega (arith, ap upper_of e, b.0), omega (arith, ap lower_of e, b.2))

  pub said_by : (d : Numbered) → Said → (i : ℕ) × (i < length xs) × SameRule (get_or xs i d) upper relation lower
  said_by d s =
      ⊎_elim
      (λ m. let f = found d s.0 s.1 m in (f.0, f.1, (f.2, inl (f.3 ∙ sym s.2, f.4 ∙ sym s.3))))
      (λ m. let f = found d s.1 s.0 m.1 in (f.0, f.1, (f.2, inr (m.0, f.3 ∙ sym s.3, f.4 ∙ sym s.2))))
      (says_cases (rules xs) s.0 s.1 relation s.4)
