-- The set of the symbols that derive the empty list, as it grows.
use Rattle.std.proofs.Common.{◌≡◌, ℕ, ◌<◌, ◌⊎◌, ◌↔◌, List, length, get_or, sym, refl, subst, inr, ⊎_elim}
use Rattle.grammar.specs.declared.production.Production.{Production as Stored}
use Rattle.grammar.specs.Grammar.{Production, production_at, left_at, right_at}
use Rattle.grammar.specs.Derivations.{Nullable, nullable}
use Rattle.grammar.specs.Model.{production, productions}
use Rattle.bitset.specs.Bits.{Has}
use Rattle.derivations.specs.Steps.{EveryIn}
use Rattle.derivations.proofs.Elements.{is_at}

-- every symbol of the set derives the empty list
abbrev pub SoundSet : List Production → ℕ → Type 0
SoundSet ps set = (s : ℕ) → Has set s → Nullable ps s

-- what one production makes of the set a
abbrev pub Grown : Production → ℕ → ℕ → Type 0
Grown p a b = (s : ℕ) → Has b s ↔ (Has a s ⊎ ((s ≡ p.left) × EveryIn a p.right))

-- the same of the stored production that was read at i
pub grown_at : (ps : List Stored) (i a b : ℕ) → i < length ps → (x : Stored) → x ≡ get_or ps i x → Grown (production x) a b → Grown (production_at (productions ps) i) a b
grown_at ps i a b l x is step = subst (λ p. Grown p a b) (is_at ps i x l is) step

pub still_sound : (ps : List Production) (a b i : ℕ) → i < length ps → Grown (production_at ps i) a b → SoundSet ps a → SoundSet ps b
still_sound ps a b i known step sound s h =
    ⊎_elim (λ (y : Has a s). sound s y)
    (λ (y : (s ≡ left_at ps i) × EveryIn a (right_at ps i)). nullable known (sym y.0) (λ k x at. sound x (y.1 k x at)))
    ((step s).0 h)

-- a set to which no production adds anything has every symbol that derives the empty list
nullable_in : (ps : List Production) (set : ℕ) → ((k : ℕ) → k < length ps → Grown (production_at ps k) set set) → {s : ℕ} → Nullable ps s → Has set s
nullable_in ps set fixed (nullable {p = p} known is rights) =
    subst (Has set) is ((fixed p known (left_at ps p)).1 (inr (refl, λ k x at. nullable_in ps set fixed (rights k x at))))

-- if it is sound, it is exact
pub exact : (ps : List Production) (set : ℕ) → SoundSet ps set → ((k : ℕ) → k < length ps → Grown (production_at ps k) set set) → (s : ℕ) → Has set s ↔ Nullable ps s
exact ps set sound fixed s = (sound s, nullable_in ps set fixed)
