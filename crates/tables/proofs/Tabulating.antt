-- Tables of places, as they are filled and as they are read.
use Rattle.std.proofs.Common.{◌≡◌, ℕ, ◌+◌, ◌-◌, ◌*◌, ◌<◌, ◌≤◌, ◌↔◌, List, length, replicate, sym, refl, ap, subst, ⊎_elim, arith}
use mathlib.Core.Logic.{⊎_map}
use Rattle.std.proofs.lemmas.Bool.{cases_lt}
use Rattle.grammar.specs.Grammar.{Production, right_at, places}
use Rattle.derivations.specs.Steps.{Adds, Gathers}
use Rattle.derivations.proofs.Gathering.{gathers_all}
use Rattle.tables.specs.Entries.{Row, Tabulates}
use Rattle.tables.specs.Places.{first_place, last_place}
use Rattle.tables.specs.Sets.{InSet, Marked}
use Rattle.tables.proofs.Counting.{last_low, places_apart, place_unique}
use Rattle.tables.proofs.Marks.{none_marked}

-- what is new may be said another way
pub adds_same : (before after new other : ℕ → ℕ → Type 0) → Adds before after new → ((x y : ℕ) → new x y ↔ other x y) → Adds before after other
adds_same before after new other step same x y = (
  λ h. ⊎_map (λ (b : before x y). b) (same x y).0 ((step x y).0 h),
  λ o. (step x y).1 (⊎_map (λ (b : before x y). b) (same x y).1 o),
)

abbrev pub Nowhere : ℕ → ℕ → Type 0
Nowhere x y = ⊥

-- cells that are all 0 hold nothing
pub gathers_none : (n : ℕ) (new : ℕ → ℕ → ℕ → Type 0) → Gathers Nowhere (Marked (replicate n 0)) 0 new
gathers_none n new x y = (
  λ h. absurd (none_marked n x y h),
  ⊎_elim (λ (b : ⊥). absurd b) (λ (t : (k : ℕ) × (k < 0) × new k x y). absurd (omega (arith, t.1))),
)

pub tabulates : (ps : List Production) (has : ℕ → ℕ → ℕ → Type 0) (cells : List ℕ) (n : ℕ) → n ≡ length ps → Gathers Nowhere (Marked cells) n (Row ps has) → Tabulates ps has cells
tabulates ps has cells n all h =
    gathers_all Nowhere (Marked cells) (length ps) (Row ps has) (λ x y b. b) (subst (λ m. Gathers Nowhere (Marked cells) m (Row ps has)) all h)

module _ (ps : List Production) (has : ℕ → ℕ → ℕ → Type 0) (cells : List ℕ) (table : Tabulates ps has cells) where
  -- the set x has the place of position k of p just if that is an entry
  pub entry_at :
      places ps ≤ 128 →
      (p k x : ℕ) →
      p < length ps →
      k ≤ length (right_at ps p) →
      InSet cells (2 * x) (first_place ps p + k) ↔ ((k < length (right_at ps p)) × has p k x)
  entry_at small p k x lp lk = (
    λ h.
        let t = (table x (first_place ps p + k)).0 (omega (arith, last_low ps p lp), h) in
        let row = t.2 in
        let same = place_unique ps p k t.0 row.0 lp lk t.1 (omega (arith, row.1)) row.2.1 in
        let here : has p k x = subst (λ n. has n k x) (sym same.0) (subst (λ n. has t.0 n x) (sym same.1) row.2.0) in
        (omega (arith, row.1, same.1, ap (λ n. length (right_at ps n)) same.0), here),
    λ h. ((table x (first_place ps p + k)).1 (p, lp, (k, h.0, (h.1, refl)))).1,
  )

  -- no set has a place past the last one
  pub entry_placed : (x d : ℕ) → Marked cells x d → (0 < length ps) × (d ≤ last_place ps (length ps - 1))
  entry_placed x d h =
      let t = (table x d).0 h in
      let p = t.0 in
      let row = t.2 in
      let here : d ≤ last_place ps p = omega (arith, row.1, row.2.1) in
      let n = length ps - 1 in (
        omega (arith, t.1),
        ⊎_elim (λ (l : p < n). omega (arith, here, places_apart ps p n l (omega (arith, t.1))))
            (λ (l : n ≤ p). let e : p ≡ n = omega (arith, t.1) in subst (λ m. d ≤ last_place ps m) e here)
            (cases_lt p n),
      )
