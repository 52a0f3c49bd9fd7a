-- The tables of a sealed grammar. Assumes nothing.
use Rattle.std.proofs.Common.{◌≡◌, ℕ, List, sym, subst}
use Rattle.tables.specs.declared.tables.Tables.{Tables}
use Rattle.tables.specs.Meaning.{Means}
use Rattle.chart.specs.Chart.{Charted}
use Rattle.draft.specs.declared.sealed.Grammar.{Grammar as Sealed}
use Rattle.draft.specs.Sealed.{sealed_model}
use Rattle.draft.proofs.Sealing.{means}

-- as a call hands them out
module _ (g : Sealed) (t : Tables) (e : t ≡ g.tables) where
  pub means_at : Means t (sealed_model g)
  means_at = subst (λ (x : Tables). Means x (sealed_model g)) (sym e) (means g)

  pub charted_at : {ws cells : List ℕ} → Charted g.tables (sealed_model g) ws cells → Charted t (sealed_model g) ws cells
  charted_at {ws} {cells} m = subst (λ (x : Tables). Charted x (sealed_model g) ws cells) (sym e) m

  pub charted_back : {ws cells : List ℕ} → Charted t (sealed_model g) ws cells → Charted g.tables (sealed_model g) ws cells
  charted_back {ws} {cells} m = subst (λ (x : Tables). Charted x (sealed_model g) ws cells) e m
