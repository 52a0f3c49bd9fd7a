-- A chart in the first cells of a longer list.
use Rattle.std.proofs.Common.{◌≡◌, ℕ, ◌+◌, ◌-◌, ◌/◌, ◌<◌, ◌≤◌, List, ◌++◌, length, take, drop, get_or, sym, ap, ◌∙◌, subst, arith}
use Rattle.std.proofs.lemmas.List.{get_or-take, get_or-drop, get_or_append_left, get_or-append_right, length-append, length-drop, length-take-le, take-append-drop}
use Rattle.grammar.specs.Grammar.{Grammar}
use Rattle.tables.specs.declared.tables.Tables.{Tables}
use Rattle.tables.specs.Meaning.{first_of, Means}
use Rattle.chart.specs.Chart.{cell_of, Charted, WhereCharted, RestKept}
use Rattle.chart.proofs.Growing.{same_set}
use Rattle.chart.proofs.Bounds.{item_known, item_dot, item_order, item_end}
use Rattle.chart.proofs.Places.{place_low}

-- the same first 4802 cells are the same chart
charted_alike :
    (t : Tables) (g : Grammar) (ws a b : List ℕ) → Means t g → length ws ≤ 48 →
    ((k : ℕ) → k < 4802 → get_or b k 0 ≡ get_or a k 0) → Charted t g ws a → Charted t g ws b
charted_alike t g ws a b m few same chart = record {
  only = λ i j d li lj ld mark.
      chart.only i j d li lj ld (same_set b a (cell_of i j) d (sym (same (cell_of i j + d / 64) (omega arith))) mark);
  all = λ p k i j item.
      let low = place_low t g m p k (item_known item) (item_dot item) in
      let order = item_order item in
      let last = item_end item in
      let d = first_of t p + k in
      same_set a b (cell_of i j) d (same (cell_of i j + d / 64) (omega arith)) (chart.all p k i j item);
}

-- of the array that `first_chunk` lends out of longer cells
charted_front :
    (t : Tables) (g : Grammar) (ws cells : List ℕ) → Means t g → length ws ≤ 48 → Charted t g ws cells →
    Charted t g ws (take 4802 cells)
charted_front t g ws cells m few chart = charted_alike t g ws cells (take 4802 cells) m few (λ k l. get_or-take 4802 cells k 0 l) chart

-- of the longer cells, once the array is given back
pub charted_whole :
    (t : Tables) (g : Grammar) (ws front rest : List ℕ) → Means t g → length ws ≤ 48 → length front ≡ 4802 →
    Charted t g ws front → Charted t g ws (front ++ rest)
charted_whole t g ws front rest m few long chart =
    charted_alike t g ws front (front ++ rest) m few (λ k l. get_or_append_left front rest 0 k (omega arith)) chart

pub rest_kept : (cells front : List ℕ) → length front ≡ 4802 → RestKept cells (front ++ drop 4802 cells)
rest_kept cells front long k l =
    let e : 4802 + (k - 4802) ≡ k = omega arith in
    get_or-append_right front (drop 4802 cells) 4802 k 0 long l ∙ get_or-drop 4802 cells (k - 4802) 0 ∙ ap (λ i. get_or cells i 0) e

-- the array that is lent out of the cells
module _ (cells front : List ℕ) (enough : 4802 ≤ length cells) (same : front ≡ take 4802 cells) where
  pub front_length : length front ≡ 4802
  front_length = ap length same ∙ length-take-le 4802 cells enough

  -- what is given back is as long
  pub back_length : (back : List ℕ) → length (back ++ drop 4802 cells) ≡ length cells → length back ≡ 4802
  back_length back size = omega (arith, enough, size, length-append back (drop 4802 cells), length-drop 4802 cells)

  -- given back as it was
  pub front_back : front ++ drop 4802 cells ≡ cells
  front_back = ap (λ xs. xs ++ drop 4802 cells) same ∙ take-append-drop 4802 cells

  pub front_charted : (t : Tables) (g : Grammar) (ws : List ℕ) → Means t g → length ws ≤ 48 → Charted t g ws cells → Charted t g ws front
  front_charted t g ws m few chart = subst (Charted t g ws) (sym same) (charted_front t g ws cells m few chart)

  -- what holds where the array is a chart holds where the cells are one
  pub where_front :
      (t : Tables) (n : ℕ) → n ≤ 48 → (P : Grammar → List ℕ → Type 0) → WhereCharted t n front P → WhereCharted t n cells P
  where_front t n few P holds g ws m len chart = holds g ws m len (front_charted t g ws m (omega arith) chart)
