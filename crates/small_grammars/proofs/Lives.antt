-- The live productions of a grammar, computed.
use Rattle.std.proofs.Common.{◌≡◌, ℕ, zero, suc, ◌<◌, Bool, true, not, ◌&&◌, ◌||◌, eqb, ltb, ◌⊎◌, List, [], ◌∷◌, length, get_or, Decides, All, sym, refl, subst, inl, inr, arith}
use mathlib.Core.List.Memᴰ
use mathlib.Core.List.{Memᴰ}
use native.Mathlib.Decide.{dec_lt}
use Rattle.std.specs.List.{flat_map}
use Rattle.std.proofs.lemmas.List.Elements.{All-nil}
use Rattle.std.proofs.lemmas.Bool.Decides.{Decides-and, Decides-or, Decides-not, Decides-eqb, Decides-ltb}
use Rattle.grammar.specs.Grammar.{Grammar, Nonterminal, Kind, At, left_of, right_of, size_of}
use Rattle.grammar.specs.Order.{Conflict}
use Rattle.grammar.specs.Items.{Live, live, Fills, fills_kind, fills_live}
use Rattle.theory.specs.Closed.{LiveClosed}
use Rattle.theory.proofs.Least.{live_least}
use Rattle.small_grammars.proofs.Sets.{any, all_below, decides_any, decides_all_below, when, all_of, when_all, all_when, joined_all, all_joined, subset, saturate, saturate_all, subset_all}
use Rattle.small_grammars.proofs.Conflicts.{AboveExact, conflicts, decides_conflict}

abbrev pub is_kind : ℕ → Bool
is_kind s = ltb 15 s && ltb s 48

pub decides_kind : (s : ℕ) → Decides (is_kind s) (Kind s)
decides_kind s = Decides-and _ _ (Decides-ltb 15 s) (Decides-ltb s 48)

-- the numbers below n
abbrev pub below : ℕ → List ℕ
below zero = []
below (suc n) = n ∷ below n

pub into_below : (n p : ℕ) → p < n → Memᴰ p (below n)
into_below zero p l = absurd (omega arith)
into_below (suc n) p l = elim (dec_lt p n) [ yes m ↦ Memᴰ.tail (into_below n p m) | no m ↦ Memᴰ.head (omega arith) ]

pub from_below : (n p : ℕ) → Memᴰ p (below n) → p < n
from_below zero p m = absurd (Memᴰ.not-nil m)
from_below (suc n) p m = elim (Memᴰ.cases_cons m) [ inl e ↦ omega arith | inr k ↦ let r = from_below n p k in omega arith ]

-- q may stand at position k of p
abbrev pub Admits : Grammar → ℕ → ℕ → ℕ → Type 0
Admits g p k q = At (right_of g p) k (left_of g q) × (Nonterminal (left_of g q) × (¬ Conflict g p k q))

-- the symbol at position k of p
abbrev pub symbol : Grammar → ℕ → ℕ → ℕ
symbol g p k = get_or (right_of g p) k 0

module _ (g : Grammar) (A : List (ℕ × ℕ)) where
  abbrev pub admits : ℕ → ℕ → ℕ → Bool
  admits p k q = (ltb k (size_of g p) && eqb (symbol g p k) (left_of g q)) && (ltb (left_of g q) 16 && not (conflicts g A p k q))

  abbrev fills : List ℕ → ℕ → ℕ → Bool
  fills D p k = is_kind (symbol g p k) || any (admits p k) D

  abbrev live_by : List ℕ → ℕ → List ℕ
  live_by D p = when (all_below (fills D p) (size_of g p)) p

  abbrev live_step : List ℕ → List ℕ
  live_step D = flat_map (live_by D) (below (length g.productions))

  abbrev pub lives : List ℕ
  lives = saturate eqb live_step (length g.productions) []

  -- nothing more follows
  abbrev pub lives_closed : Bool
  lives_closed = subset eqb (live_step lives) lives

  module _ (exact : AboveExact g A) where
    pub decides_admits : (p k q : ℕ) → Decides (admits p k q) (Admits g p k q)
    decides_admits p k q =
        Decides-and _ _ (Decides-and _ _ (Decides-ltb k (size_of g p)) (Decides-eqb (symbol g p k) (left_of g q)))
        (Decides-and _ _ (Decides-ltb (left_of g q) 16) (Decides-not _ (decides_conflict g A exact p k q)))

    -- position k of p can be filled by a word or by a production of D in no conflict
    abbrev Filled : List ℕ → ℕ → ℕ → Type 0
    Filled D p k = Kind (symbol g p k) ⊎ ((q : ℕ) × Memᴰ q D × Admits g p k q)

    decides_fills : (D : List ℕ) (p k : ℕ) → Decides (fills D p k) (Filled D p k)
    decides_fills D p k = Decides-or _ _ (decides_kind (symbol g p k)) (decides_any (admits p k) (decides_admits p k) D)

    decides_all_filled : (D : List ℕ) (p : ℕ) → Decides (all_below (fills D p) (size_of g p)) ((k : ℕ) → k < size_of g p → Filled D p k)
    decides_all_filled D p = decides_all_below (fills D p) (decides_fills D p) (size_of g p)

    live_keeps : (D : List ℕ) → All (Live g) D → All (Live g) (live_step D)
    live_keeps D h =
        joined_all (Live g) (live_by D) (below (length g.productions)) (λ p m.
        when_all (Live g) _ p (λ e.
        live (from_below (length g.productions) p m) (λ k s at.
        subst (Fills g p k) at.1 (elim ((decides_all_filled D p).0 e k at.0) [
          | inl kind ↦ fills_kind kind
          | inr r ↦ fills_live (subst Nonterminal (sym r.2.0.1) r.2.1.0) (sym r.2.0.1) r.2.1.1 (all_of (Live g) D h r.1)
        ]))))

    live_in : (D : List ℕ) → All (λ p. Memᴰ p D) (live_step D) → LiveClosed g (λ p. Memᴰ p D)
    live_in D h = record {
      more = λ p known filled.
          all_when (λ p. Memᴰ p D) (all_below (fills D p) (size_of g p)) p
          (all_joined (λ p. Memᴰ p D) (live_by D) (below (length g.productions)) h (into_below (length g.productions) p known))
          ((decides_all_filled D p).1 (λ k l.
          elim (filled k (symbol g p k) (l, refl)) [
            | inl kind ↦ inl kind
            | inr r ↦ inr (r.0, r.4, ((l, sym r.2), (subst Nonterminal (sym r.2) r.1, r.3)))
          ]));
    }

    -- exactly the live productions are found
    pub live_exact : lives_closed ≡ true → (p : ℕ) → (Memᴰ p lives → Live g p) × (Live g p → Memᴰ p lives)
    live_exact closed p = (
      all_of (Live g) lives (saturate_all eqb (Live g) live_step live_keeps (length g.productions) [] (All-nil (Live g))),
      live_least g (λ p. Memᴰ p lives) (live_in lives (subset_all eqb Decides-eqb (live_step lives) lives closed)) p,
    )
