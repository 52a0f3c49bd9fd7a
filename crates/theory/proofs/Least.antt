-- A closed set has every live production, or every item.
use Rattle.std.proofs.Common.{ℕ, List, inl, inr}
use Rattle.grammar.specs.Grammar.{Grammar}
use Rattle.grammar.specs.Items.{Live, live, Fills, fills_kind, fills_live, Item, init, predict, scan, complete}
use Rattle.theory.specs.Closed.{FillsIn, LiveClosed, ItemClosed}

mutual
  pub live_least : (g : Grammar) (S : ℕ → Type 0) → LiveClosed g S → (p : ℕ) → Live g p → S p
  live_least g S closed p (live known fills) = closed.more p known (λ k s at. fills_least g S closed p k s (fills k s at))

  fills_least : (g : Grammar) (S : ℕ → Type 0) → LiveClosed g S → (p k s : ℕ) → Fills g p k s → FillsIn g S p k s
  fills_least g S closed p k s (fills_kind kind) = inl kind
  fills_least g S closed p k s (fills_live {q = q} low is ok alive) = inr (q, low, is, ok, live_least g S closed q alive)

pub item_least : {g : Grammar} {ws : List ℕ} (S : ℕ → ℕ → ℕ → ℕ → Type 0) → ItemClosed g ws S → {p k i j : ℕ} → Item g ws p k i j → S p k i j
item_least S closed (init alive is) = closed.inits _ alive is
item_least S closed (predict up at low ok alive) = closed.predicts _ _ _ _ _ (item_least S closed up) at low ok alive
item_least S closed (scan before at kind here) = closed.scans _ _ _ _ _ (item_least S closed before) at kind here
item_least S closed (complete before child at low ok) = closed.completes _ _ _ _ _ _ (item_least S closed before) (item_least S closed child) at low ok
