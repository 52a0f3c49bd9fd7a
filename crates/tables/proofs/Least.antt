-- The least set of productions that fills the right side of each of its productions: the live ones.
use Rattle.std.proofs.Common.{◌≡◌, ℕ, ◌+◌, ◌≤◌, ◌⊎◌, ◌↔◌, List, sym, refl, ◌∙◌, subst, inl, inr, ⊎_elim, arith}
use Rattle.grammar.specs.Grammar.{Production, Grammar, Nonterminal, At, Known, right_of, places}
use Rattle.grammar.specs.Items.{Live, live, Fills, fills_kind, fills_live}
use Rattle.grammar.specs.Sound.{SymbolsInRange}
use Rattle.bitset.specs.Bits.{Has}
use Rattle.tables.specs.Entries.{Admits, Tabulates, WaitsFor}
use Rattle.tables.specs.Filling.{Filled, FillableAt}
use Rattle.tables.specs.Places.{first_place}
use Rattle.tables.proofs.Tabulating.{entry_at}

live_known : {g : Grammar} {p : ℕ} → Live g p → Known g p
live_known (live known fills) = known

-- every production of the set is live
abbrev pub LiveSet : Grammar → ℕ → Type 0
LiveSet g set = (q : ℕ) → Has set q → Live g q

-- what one production makes of the set a
abbrev pub Grown : List Production → List ℕ → ℕ → ℕ → ℕ → Type 0
Grown ps waits p a b = (q : ℕ) → Has b q ↔ (Has a q ⊎ ((q ≡ p) × FillableAt ps waits a p))

module _ (g : Grammar) (waits : List ℕ) (table : Tabulates g.productions (WaitsFor g) waits) where
  -- what live productions fill is live
  fill_live : SymbolsInRange g.productions → places g.productions ≤ 128 → (set : ℕ) → LiveSet g set → (p : ℕ) → Known g p → FillableAt g.productions waits set p → Live g p
  fill_live symbols small set sound p known full =
      live known
      (λ k s at.
      ⊎_elim (λ (h : 16 ≤ s). fills_kind (h, omega (arith, symbols p k known at.0, at.1)))
      (λ (f : Filled waits set (first_place g.productions p + k)).
      let entry = (entry_at g.productions (WaitsFor g) waits table small p k f.0 known (omega (arith, at.0))).0 f.2.1 in
      let fits = entry.1.1 in
      let e = sym fits.0.1 ∙ at.1 in
      fills_live (subst Nonterminal e fits.1) e fits.2 (sound f.0 f.1))
      (full k s at))

  pub still_live : SymbolsInRange g.productions → places g.productions ≤ 128 → (p a b : ℕ) → Known g p → Grown g.productions waits p a b → LiveSet g a → LiveSet g b
  still_live symbols small p a b known step was q h =
      ⊎_elim (λ (y : Has a q). was q y)
      (λ (y : (q ≡ p) × FillableAt g.productions waits a p). subst (Live g) (sym y.0) (fill_live symbols small a was p known y.1))
      ((step q).0 h)

  -- a set to which no production is added has every live one
  module _ (set : ℕ) (fixed : (p : ℕ) → Known g p → Grown g.productions waits p set set) where
    mutual
      live_in : (p : ℕ) → Live g p → Has set p
      live_in p (live known fills) = (fixed p known p).1 (inr (refl, λ k s at. fills_in p k s known at (fills k s at)))

      fills_in : (p k s : ℕ) → Known g p → At (right_of g p) k s → Fills g p k s → (16 ≤ s) ⊎ Filled waits set (first_place g.productions p + k)
      fills_in p k s known at (fills_kind kind) = inl kind.0
      fills_in p k s known at (fills_live {q = q} non is free alive) =
          let fits : Admits g p k q = ((at.0, at.1 ∙ sym is), subst Nonterminal (sym is) non, free) in
          inr (q, live_in q alive, (table q (first_place g.productions p + k)).1 (p, known, (k, at.0, ((live_known alive, fits), refl))))

    -- if it is sound, it is exact
    pub exact : LiveSet g set → (q : ℕ) → Has set q ↔ Live g q
    exact sound q = (sound q, live_in q)
