-- A rank of the nonterminals: how many nonterminals a nonterminal leads to. What leads to what is decided only under a double negation.
use Rattle.std.proofs.Common.{◌≡◌, ℕ, zero, suc, ◌+◌, ◌<◌, ◌≤◌, subst, arith}
use native.Mathlib.Decide.{dec_lt}
use Rattle.grammar.specs.Grammar.{Grammar}
use Rattle.grammar.specs.Order.{closure_one, closure_more}
use Rattle.grammar.specs.Derivations.{Leads, LeadsOn}
use Rattle.grammar.specs.Sound.{WellFormed}
use Rattle.listing_theory.proofs.Descends.{Ranked}

abbrev one_if : {A : Type 0} → Dec A → ℕ
one_if (yes a) = 1
one_if (no a) = 0

-- how many of the numbers below n have P
abbrev tally : {P : ℕ → Type 0} → ((n : ℕ) → Dec (P n)) → ℕ → ℕ
tally d zero = 0
tally d (suc n) = tally d n + one_if (d n)

one_small : {A : Type 0} (d : Dec A) → one_if d ≤ 1
one_small (yes a) = omega arith
one_small (no a) = omega arith

one_none : {A : Type 0} → (¬ A) → (d : Dec A) → one_if d < 1
one_none f (yes a) = absurd (f a)
one_none f (no a) = omega arith

one_mono : {A B : Type 0} → (A → B) → (d : Dec A) (e : Dec B) → one_if d ≤ one_if e
one_mono f (yes a) (yes b) = omega arith
one_mono f (yes a) (no b) = absurd (b (f a))
one_mono f (no a) e = omega arith

one_less : {A B : Type 0} → (¬ A) → B → (d : Dec A) (e : Dec B) → one_if d < one_if e
one_less f y (yes a) e = absurd (f a)
one_less f y (no a) (yes b) = omega arith
one_less f y (no a) (no b) = absurd (b y)

tally_small : {P : ℕ → Type 0} (d : (n : ℕ) → Dec (P n)) (n : ℕ) → tally d n ≤ n
tally_small d zero = omega arith
tally_small d (suc n) = let h = tally_small d n in let l = one_small (d n) in omega arith

-- where one of the numbers has not P
tally_miss : {P : ℕ → Type 0} (d : (n : ℕ) → Dec (P n)) (m : ℕ) → (¬ P m) → (n : ℕ) → m < n → tally d n < n
tally_miss d m x zero l = absurd (omega arith)
tally_miss {P} d m x (suc n) l =
    elim (dec_lt m n) [
      | yes h ↦ let k = tally_miss d m x n h in let o = one_small (d n) in omega arith
      | no h ↦
          let same : m ≡ n = omega arith in
          let k = tally_small d n in
          let o = one_none (subst (λ i. ¬ P i) same x) (d n) in
          omega arith
    ]

module _ {P Q : ℕ → Type 0} (sub : (n : ℕ) → P n → Q n) (d : (n : ℕ) → Dec (P n)) (e : (n : ℕ) → Dec (Q n)) where
  tally_mono : (n : ℕ) → tally d n ≤ tally e n
  tally_mono zero = omega arith
  tally_mono (suc n) = let h = tally_mono n in let l = one_mono (sub n) (d n) (e n) in omega arith

  tally_less : (m : ℕ) → (¬ P m) → Q m → (n : ℕ) → m < n → tally d n < tally e n
  tally_less m x y zero l = absurd (omega arith)
  tally_less m x y (suc n) l =
      elim (dec_lt m n) [
        | yes h ↦ let k = tally_less m x y n h in let o = one_mono (sub n) (d n) (e n) in omega arith
        | no h ↦
            let same : m ≡ n = omega arith in
            let k = tally_mono n in
            let o = one_less (subst (λ i. ¬ P i) same x) (subst Q same y) (d n) (e n) in
            omega arith
      ]

-- ---- decisions under a double negation

not_undecided : {A : Type 0} → ¬ (¬ Dec A)
not_undecided h = h (no (λ a. h (yes a)))

not_not_each : {P : ℕ → Type 0} → ((k : ℕ) → ¬ (¬ P k)) → (n : ℕ) → ¬ (¬ ((k : ℕ) → k < n → P k))
not_not_each each zero h = h (λ k l. absurd (omega arith))
not_not_each {P} each (suc n) h =
    not_not_each each n (λ below. each n (λ last. h (λ k l. elim (dec_lt k n) [ yes m ↦ below k m | no m ↦ subst P (omega arith) last ])))

-- the nonterminal A leads to the nonterminal B
abbrev pub Low : Grammar → ℕ → ℕ → Type 0
Low g A B = (A < 16) × (B < 16) × LeadsOn g.productions A B

pub not_undecided_all : (g : Grammar) → ¬ (¬ ((A B : ℕ) → Dec (Low g A B)))
not_undecided_all g h =
    not_not_each {P = λ A. (B : ℕ) → B < 16 → Dec (LeadsOn g.productions A B)}
    (λ A. not_not_each {P = λ B. Dec (LeadsOn g.productions A B)} (λ B. not_undecided) 16) 16 (λ d.
    h (λ A B.
    elim (dec_lt A 16) [
      | no l ↦ no (λ x. l x.0)
      | yes la ↦ elim (dec_lt B 16) [
        | no l ↦ no (λ x. l x.1)
        | yes lb ↦ elim (d A la B lb) [ yes x ↦ yes (la, lb, x) | no x ↦ no (λ y. x y.2) ]
      ]
    ]))

module _ (g : Grammar) (formed : WellFormed g) (d : (A B : ℕ) → Dec (Low g A B)) where
  abbrev pub rank : ℕ → ℕ
  rank A = tally (d A) 16

  left_low : (A B : ℕ) → Leads g.productions A B → A < 16
  left_low A B h = subst (λ x. x < 16) h.of (formed.sides h.by h.known).0

  pub ranked : Ranked g rank
  ranked A B h =
      tally_less {P = Low g B} {Q = Low g A} (λ C more. (left_low A B h, more.1, closure_more h more.2)) (d B) (d A) B
      (λ x. formed.acyclic B x.2) (left_low A B h, h.below, closure_one h) 16 h.below

  pub rank_small : (A : ℕ) → rank A < 16
  rank_small A =
      elim (dec_lt A 16) [
        | yes l ↦ tally_miss (d A) A (λ x. formed.acyclic A x.2) 16 l
        | no l ↦ tally_miss (d A) 0 (λ x. l x.0) 16 (omega arith)
      ]
