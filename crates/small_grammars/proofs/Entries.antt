-- Entries: the four numbers of an item, with tests that compute.
use Rattle.std.proofs.Common.{◌≡◌, ℕ, Bool, ◌&&◌, eqb, ltb, List, length, Decides, ap}
use Rattle.std.proofs.lemmas.Bool.Decides.{Decides-like, Decides-and, Decides-eqb, Decides-ltb}
use Rattle.grammar.specs.Grammar.{Grammar, At, left_of, right_of, size_of}
use Rattle.small_grammars.proofs.Lives.{symbol}

pub record Entry : Type 0 where
  pub production : ℕ
  pub dot : ℕ
  pub origin : ℕ
  pub ends : ℕ

abbrev pub entry : ℕ → ℕ → ℕ → ℕ → Entry
entry p k i j = record { production = p; dot = k; origin = i; ends = j }

abbrev pub same_entry : Entry → Entry → Bool
same_entry x y = eqb x.ends y.ends && (eqb x.production y.production && (eqb x.dot y.dot && eqb x.origin y.origin))

pub decides_entry : (x y : Entry) → Decides (same_entry x y) (x ≡ y)
decides_entry x y =
    Decides-like
    _
    (λ h i. record { production = h.1.0 i; dot = h.1.1.0 i; origin = h.1.1.1 i; ends = h.0 i })
    (λ e. (ap (λ (z : Entry). z.ends) e, (ap (λ (z : Entry). z.production) e, (ap (λ (z : Entry). z.dot) e, ap (λ (z : Entry). z.origin) e))))
    (Decides-and _ _ (Decides-eqb x.ends y.ends)
    (Decides-and _ _ (Decides-eqb x.production y.production)
    (Decides-and _ _ (Decides-eqb x.dot y.dot) (Decides-eqb x.origin y.origin))))

-- a complete entry of a start production spans all the words
abbrev pub accepts : Grammar → List ℕ → Entry → Bool
accepts g ws x =
    eqb x.dot (size_of g x.production)
    && (eqb x.origin 0 && (eqb x.ends (length ws) && eqb (left_of g x.production) g.start))

abbrev pub Accepts : Grammar → List ℕ → Entry → Type 0
Accepts g ws x = (x.dot ≡ size_of g x.production) × ((x.origin ≡ 0) × ((x.ends ≡ length ws) × (left_of g x.production ≡ g.start)))

pub decides_accepts : (g : Grammar) (ws : List ℕ) (x : Entry) → Decides (accepts g ws x) (Accepts g ws x)
decides_accepts g ws x =
    Decides-and _ _ (Decides-eqb x.dot (size_of g x.production))
    (Decides-and _ _ (Decides-eqb x.origin 0)
    (Decides-and _ _ (Decides-eqb x.ends (length ws)) (Decides-eqb (left_of g x.production) g.start)))

-- an entry of the last column waits for the symbol a
abbrev pub awaits : Grammar → List ℕ → ℕ → Entry → Bool
awaits g ws a x = eqb x.ends (length ws) && (ltb x.dot (size_of g x.production) && eqb (symbol g x.production x.dot) a)

abbrev pub Awaits : Grammar → List ℕ → ℕ → Entry → Type 0
Awaits g ws a x = (x.ends ≡ length ws) × At (right_of g x.production) x.dot a

pub decides_awaits : (g : Grammar) (ws : List ℕ) (a : ℕ) (x : Entry) → Decides (awaits g ws a x) (Awaits g ws a x)
decides_awaits g ws a x =
    Decides-and _ _ (Decides-eqb x.ends (length ws))
    (Decides-and _ _ (Decides-ltb x.dot (size_of g x.production)) (Decides-eqb (symbol g x.production x.dot) a))
