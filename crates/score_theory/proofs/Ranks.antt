-- In a well-formed grammar what leads to what is decided, and has a rank: how many nonterminals a nonterminal leads to.
use Rattle.std.proofs.Common.{◌≡◌, ℕ, zero, suc, ◌+◌, ◌<◌, ◌≤◌, ◌⊎◌, List, length, get_or, refl, subst, inl, inr, arith}
use mathlib.Core.List.{Memᴰ}
use mathlib.Core.Logic.Dec
use native.Mathlib.Decide.{dec_lt, ℕ_discrete, map_dec}
use Rattle.grammar.specs.Grammar.{Production, left_at, right_at}
use Rattle.grammar.specs.Order.{closure_one, closure_more}
use Rattle.grammar.specs.Derivations.{Nullable, nullable, Leads, LeadsOn}
use Rattle.grammar.specs.Sound.{SidesInRange, Acyclic}
use Rattle.theory.proofs.Decisions.{either, any, member?, each_below}
use Rattle.theory.proofs.Saturation.{upto, into_upto, least_set}
use Rattle.theory.proofs.Conflicts.{closure?}

-- ---- which symbols derive the empty list

-- a production of s has on its right only symbols of D
abbrev Follows : List Production → List ℕ → ℕ → Type 0
Follows ps D s =
    (p : ℕ) × Memᴰ p (upto (length ps)) × ((p < length ps) × ((left_at ps p ≡ s) × ((k : ℕ) → k < length (right_at ps p) → Memᴰ (get_or (right_at ps p) k 0) D)))

module _ (ps : List Production) (sides : SidesInRange ps) where
  follows? : (D : List ℕ) (s : ℕ) → Dec (Follows ps D s)
  follows? D s =
      any
      (λ p.
      Dec.and
      (dec_lt p (length ps))
      (Dec.and (ℕ_discrete (left_at ps p) s) (each_below (λ k. member? ℕ_discrete (get_or (right_at ps p) k 0) D) (length (right_at ps p)))))
      (upto (length ps))

  follows_nullable : (D : List ℕ) (s : ℕ) → ((x : ℕ) → Memᴰ x D → Nullable ps x) → Follows ps D s → Nullable ps s
  follows_nullable D s all h = nullable h.2.0 h.2.1.0 (λ k x at. all x (subst (λ y. Memᴰ y D) at.1 (h.2.1.1 k at.0)))

  found : (E : List ℕ) × ((s : ℕ) → Memᴰ s E → Nullable ps s) × ((s : ℕ) → Memᴰ s (upto 16) → Follows ps E s → Memᴰ s E)
  found = least_set (Nullable ps) (Follows ps) follows? follows_nullable (upto 16)

  nullable_found : {s : ℕ} → Nullable ps s → Memᴰ s found.0
  nullable_found {s} (nullable {p = p} known is rights) =
      let low = (sides p known).0 in
      found.2 s (into_upto 16 s (omega arith)) (
        p,
        into_upto (length ps) p (omega arith),
        (known, (is, λ k l. nullable_found (rights k (get_or (right_at ps p) k 0) (l, refl)))),
      )

  nullable? : (s : ℕ) → Dec (Nullable ps s)
  nullable? s = map_dec (found.1 s) nullable_found (member? ℕ_discrete s found.0)

  -- ---- which nonterminals lead to which

  -- position k is the place, or its symbol derives the empty list
  abbrev Passed : ℕ → ℕ → ℕ → Type 0
  Passed p place k = (k ≡ place) ⊎ Nullable ps (get_or (right_at ps p) k 0)

  abbrev LeadsAt : ℕ → ℕ → ℕ → ℕ → Type 0
  LeadsAt A B p place =
      (place < length (right_at ps p)) × ((get_or (right_at ps p) place 0 ≡ B) × ((k : ℕ) → k < length (right_at ps p) → Passed p place k))

  abbrev LeadsBy : ℕ → ℕ → ℕ → Type 0
  LeadsBy A B p =
      (p < length ps) × ((left_at ps p ≡ A) × ((place : ℕ) × Memᴰ place (upto (length (right_at ps p))) × LeadsAt A B p place))

  abbrev Found : ℕ → ℕ → Type 0
  Found A B = (B < 16) × ((p : ℕ) × Memᴰ p (upto (length ps)) × LeadsBy A B p)

  found? : (A B : ℕ) → Dec (Found A B)
  found? A B =
      Dec.and
      (dec_lt B 16)
      (any
      (λ p.
      Dec.and
      (dec_lt p (length ps))
      (Dec.and
      (ℕ_discrete (left_at ps p) A)
      (any
      (λ place.
      Dec.and
      (dec_lt place (length (right_at ps p)))
      (Dec.and
      (ℕ_discrete (get_or (right_at ps p) place 0) B)
      (each_below (λ k. either (ℕ_discrete k place) (nullable? (get_or (right_at ps p) k 0))) (length (right_at ps p)))))
      (upto (length (right_at ps p))))))
      (upto (length ps)))

  found_leads : (A B : ℕ) → Found A B → Leads ps A B
  found_leads A B h =
      let p = h.1.0 in
      let by = h.1.2 in
      let at = by.1.1 in
      record {
        by = p;
        known = by.0;
        of = by.1.0;
        place = at.0;
        has = (at.2.0, at.2.1.0);
        below = h.0;
        others = λ k x there apart.
            elim (at.2.1.1 k there.0) [ inl same ↦ absurd (apart same) | inr null ↦ subst (Nullable ps) there.1 null ];
      }

  leads_found : (A B : ℕ) → Leads ps A B → Found A B
  leads_found A B h =
      let known = h.known in
      let here = h.has.0 in (
        h.below,
        (
          h.by,
          into_upto (length ps) h.by (omega arith),
          (
            known,
            (
              h.of,
              (
                h.place,
                into_upto (length (right_at ps h.by)) h.place (omega arith),
                (
                  here,
                  (
                    h.has.1,
                    λ k l. elim (ℕ_discrete k h.place) [ yes same ↦ inl same | no apart ↦ inr (h.others k (get_or (right_at ps h.by) k 0) (l, refl) apart) ],
                  ),
                ),
              ),
            ),
          ),
        ),
      )

  leads? : (A B : ℕ) → Dec (Leads ps A B)
  leads? A B = map_dec (found_leads A B) (leads_found A B) (found? A B)

  leads_on? : (A B : ℕ) → Dec (LeadsOn ps A B)
  leads_on? = closure? (Leads ps) leads? 16 (λ A B h. h.below)

-- ---- counting

abbrev one_if : {A : Type 0} → Dec A → ℕ
one_if (yes a) = 1
one_if (no a) = 0

-- how many numbers below n have the property
abbrev tally : {P : ℕ → Type 0} → ((n : ℕ) → Dec (P n)) → ℕ → ℕ
tally d zero = 0
tally d (suc n) = tally d n + one_if (d n)

one_small : {A : Type 0} (d : Dec A) → one_if d ≤ 1
one_small (yes a) = omega arith
one_small (no a) = omega arith

one_mono : {A B : Type 0} → (A → B) → (d : Dec A) (e : Dec B) → one_if d ≤ one_if e
one_mono f (yes a) (yes b) = omega arith
one_mono f (yes a) (no b) = absurd (b (f a))
one_mono f (no a) e = omega arith

one_less : {A B : Type 0} → (¬ A) → B → (d : Dec A) (e : Dec B) → one_if d < one_if e
one_less f y (yes a) e = absurd (f a)
one_less f y (no a) (yes b) = omega arith
one_less f y (no a) (no b) = absurd (b y)

tally_small : {P : ℕ → Type 0} (d : (n : ℕ) → Dec (P n)) (n : ℕ) → tally d n ≤ n
tally_small d zero = omega arith
tally_small d (suc n) = let h = tally_small d n in let l = one_small (d n) in omega arith

module _ {P Q : ℕ → Type 0} (sub : (n : ℕ) → P n → Q n) (d : (n : ℕ) → Dec (P n)) (e : (n : ℕ) → Dec (Q n)) where
  tally_mono : (n : ℕ) → tally d n ≤ tally e n
  tally_mono zero = omega arith
  tally_mono (suc n) = let h = tally_mono n in let l = one_mono (sub n) (d n) (e n) in omega arith

  tally_less : (m : ℕ) → (¬ P m) → Q m → (n : ℕ) → m < n → tally d n < tally e n
  tally_less m x y zero l = absurd (omega arith)
  tally_less m x y (suc n) l =
      elim (dec_lt m n) [
        | yes h ↦ let k = tally_less m x y n h in let o = one_mono (sub n) (d n) (e n) in omega arith
        | no h ↦
            let same : m ≡ n = omega arith in
            let k = tally_mono n in
            let o = one_less (subst (λ i. ¬ P i) same x) (subst Q same y) (d n) (e n) in
            omega arith
      ]

-- ---- the rank

abbrev pub Ranked : List Production → (ℕ → ℕ) → Type 0
Ranked ps rank = (A B : ℕ) → Leads ps A B → rank B < rank A

pub ranking : (ps : List Production) → SidesInRange ps → Acyclic ps → (rank : ℕ → ℕ) × Ranked ps rank × ((A : ℕ) → rank A ≤ 16)
ranking ps sides acyclic = (
  (λ A. tally (leads_on? ps sides A) 16),
  (λ A B h. tally_less {P = LeadsOn ps B} {Q = LeadsOn ps A} (λ C more. closure_more h more) (leads_on? ps sides B) (leads_on? ps sides A) B (acyclic B) (closure_one h) 16 h.below),
  λ A. tally_small (leads_on? ps sides A) 16,
)
