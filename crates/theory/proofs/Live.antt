-- Live productions are decided.
use Rattle.std.proofs.Common.{◌≡◌, ℕ, ◌<◌, ◌⊎◌, List, length, get_or, refl, subst, inl, inr, arith}
use mathlib.Core.List.{Memᴰ}
use mathlib.Core.Logic.Dec
use native.Mathlib.Decide.{dec_lt, ℕ_discrete, map_dec}
use Rattle.grammar.specs.Grammar.{Grammar, Nonterminal, Kind, Known, left_of, right_of, size_of}
use Rattle.grammar.specs.Order.{Conflict}
use Rattle.grammar.specs.Items.{Live, live, Fills, fills_kind, fills_live}
use Rattle.grammar.specs.Sound.{Named}
use Rattle.theory.specs.Closed.{LiveClosed}
use Rattle.theory.specs.Decided.{LiveDecided}
use Rattle.theory.proofs.Decisions.{either, any, member?, each_below, kind?}
use Rattle.theory.proofs.Saturation.{upto, into_upto, least_set}
use Rattle.theory.proofs.Least.{live_least}
use Rattle.theory.proofs.Conflicts.{conflict?}

-- the symbol at position k of p
abbrev symbol : Grammar → ℕ → ℕ → ℕ
symbol g p k = get_or (right_of g p) k 0

-- position k of p can be filled by a word or by a production of D in no conflict
abbrev FillsFrom : Grammar → List ℕ → ℕ → ℕ → Type 0
FillsFrom g D p k =
    Kind (symbol g p k) ⊎ (Nonterminal (symbol g p k) × ((q : ℕ) × Memᴰ q D × ((left_of g q ≡ symbol g p k) × (¬ Conflict g p k q))))

-- every position of p can
abbrev Follows : Grammar → List ℕ → ℕ → Type 0
Follows g D p = Known g p × ((k : ℕ) → k < size_of g p → FillsFrom g D p k)

follows_live : (g : Grammar) (D : List ℕ) (p : ℕ) → ((q : ℕ) → Memᴰ q D → Live g q) → Follows g D p → Live g p
follows_live g D p all h =
    live
    h.0
    (λ k s at.
    subst (Fills g p k) at.1 (elim (h.1 k at.0) [
      | inl kind ↦ fills_kind kind
      | inr r ↦ fills_live r.0 r.1.2.0 r.1.2.1 (all r.1.0 r.1.1)
    ]))

module _ (g : Grammar) (named : Named g) where
  follows? : (D : List ℕ) (p : ℕ) → Dec (Follows g D p)
  follows? D p =
      Dec.and
      (dec_lt p (length g.productions))
      (each_below
      (λ k.
      let s = symbol g p k in
      either (kind? s) (Dec.and (dec_lt s 16) (any (λ q. Dec.and (ℕ_discrete (left_of g q) s) (Dec.not (conflict? g named p k q))) D)))
      (size_of g p))

  found : (E : List ℕ) × ((p : ℕ) → Memᴰ p E → Live g p) × ((p : ℕ) → Memᴰ p (upto (length g.productions)) → Follows g E p → Memᴰ p E)
  found = least_set (Live g) (Follows g) follows? (follows_live g) (upto (length g.productions))

  found_closed : LiveClosed g (λ p. Memᴰ p found.0)
  found_closed = record {
    more = λ p known h.
        found.2 p (into_upto (length g.productions) p (omega arith)) (
          known,
          λ k l. elim (h k (symbol g p k) (l, refl)) [ inl kind ↦ inl kind | inr r ↦ inr (r.1, (r.0, r.4, (r.2, r.3))) ],
        );
  }

  live_is : (p : ℕ) → Dec (Live g p)
  live_is p = map_dec (found.1 p) (live_least g (λ q. Memᴰ q found.0) found_closed p) (member? ℕ_discrete p found.0)

pub live? : LiveDecided
live? = live_is
