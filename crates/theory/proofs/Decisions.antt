-- Decisions of sums, of membership, and of what holds of some element or of all smaller numbers.
use Rattle.std.proofs.Common.{◌≡◌, ℕ, zero, suc, ◌<◌, ◌⊎◌, List, [], ◌∷◌, length, get_or, refl, subst, inl, inr, arith}
use mathlib.Core.List.Memᴰ
use mathlib.Core.List.{Memᴰ}
use mathlib.Core.Logic.Dec
use native.Mathlib.Decide.{dec_lt, dec_le, ℕ_discrete, map_dec}
use Rattle.grammar.specs.Grammar.{Kind, At}

pub either : {A B : Type 0} → Dec A → Dec B → Dec (A ⊎ B)
either (yes a) d = yes (inl a)
either (no a) (yes b) = yes (inr b)
either (no a) (no b) = no (λ h. elim h [ inl x ↦ a x | inr x ↦ b x ])

pub any : {A : Type 0} {P : A → Type 0} → ((x : A) → Dec (P x)) → (xs : List A) → Dec ((x : A) × Memᴰ x xs × P x)
any d [] = no (λ h. Memᴰ.not-nil h.1)
any {P = P} d (x ∷ xs) =
    elim (d x) [
      | yes p ↦ yes (x, Memᴰ.head refl, p)
      | no p ↦ elim (any d xs) [
        | yes r ↦ yes (r.0, Memᴰ.tail r.1, r.2)
        | no r ↦ no (λ h. elim (Memᴰ.cases_cons h.1) [ inl e ↦ p (subst P e h.2) | inr m ↦ r (h.0, m, h.2) ])
      ]
    ]

pub member? : {A : Type 0} → ((x y : A) → Dec (x ≡ y)) → (x : A) (xs : List A) → Dec (Memᴰ x xs)
member? same x xs = map_dec (λ h. Memᴰ.cast h.2 h.1) (λ m. (x, m, refl)) (any (same x) xs)

pub each_below : {P : ℕ → Type 0} → ((k : ℕ) → Dec (P k)) → (n : ℕ) → Dec ((k : ℕ) → k < n → P k)
each_below d zero = yes (λ k l. absurd (omega arith))
each_below {P} d (suc n) =
    elim (d n) [
      | no p ↦ no (λ h. p (h n (omega arith)))
      | yes p ↦ elim (each_below d n) [
        | no r ↦ no (λ h. r (λ k l. h k (omega arith)))
        | yes r ↦ yes (λ k l. elim (dec_lt k n) [ yes m ↦ r k m | no m ↦ let e : n ≡ k = omega arith in subst P e p ])
      ]
    ]

pub kind? : (s : ℕ) → Dec (Kind s)
kind? s = Dec.and (dec_le 16 s) (dec_lt s 48)

pub at? : (xs : List ℕ) (i x : ℕ) → Dec (At xs i x)
at? xs i x = Dec.and (dec_lt i (length xs)) (ℕ_discrete (get_or xs i 0) x)
