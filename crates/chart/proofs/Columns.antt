-- A closed column marks every item that ends there.
use Rattle.std.proofs.Common.{◌≡◌, ℕ, suc, ◌+◌, ◌<◌, ◌≤◌, Bool, List, sym, subst, ⊎_elim, add-zero, arith}
use Rattle.std.proofs.lemmas.Bool.{cases_lt}
use Rattle.grammar.specs.Grammar.{Grammar, size_of}
use Rattle.grammar.specs.Items.{Item, init, predict, scan, complete}
use Rattle.tables.specs.declared.tables.Tables.{Tables}
use Rattle.tables.specs.Meaning.{first_of, last_of, Means}
use Rattle.chart.specs.Chart.{cell_of, Marked}
use Rattle.chart.specs.declared.column.Column.{Column}
use Rattle.chart.specs.Columns.{Moved, Completed, Predicted, Full, Based, Closes}
use Rattle.chart.proofs.Growing.{kept}
use Rattle.chart.proofs.Bounds.{live_known, item_known, item_dot, item_order}
use Rattle.chart.proofs.Places.{place_low}

module _
    (col : Column) (g : Grammar) (ws cells : List ℕ)
    (m : Means col.tables.now g) (based : Based col.tables.now g ws cells col.end) (full : Full col.tables.now g ws cells col.end)
    (comp : Completed col cells) (pred : Predicted col cells)
  where
    abbrev t : Tables
    t = col.tables.now

    abbrev j : ℕ
    j = col.end

    by_end : (p k i e : ℕ) → Item g ws p k i e → e ≤ j → (e ≡ j → Marked cells i e (first_of t p + k)) → Marked cells i e (first_of t p + k)
    by_end p k i e item le here =
        ⊎_elim (λ (l : e < j). full p k i e l item) (λ (l : j ≤ e). here (omega arith)) (cases_lt e j)

    -- by the item's derivation
    full_to : {p k i e : ℕ} → Item g ws p k i e → e ≤ j → Marked cells i e (first_of t p + k)
    full_to (init {p = p} alive is) le =
        by_end p 0 0 0 (init alive is) le
        (λ e. subst (Marked cells 0 0) (sym (add-zero (first_of t p))) (based.inits p (sym e) alive is))
    full_to (predict {p = p} {k = k} {h = h} {i = i} {q = q} up at non ok alive) le =
        by_end q 0 i i (predict up at non ok alive) le
        (λ e.
        let kp = item_known up in
        let kq = live_known alive in
        let lk = item_dot up in
        let lh = item_order up in
        let mark : Marked cells h j (first_of t p + k) = subst (λ z. Marked cells h z (first_of t p + k)) e (full_to up le) in
        let w = (m.waits p k q kp lk kq).1 (at, non, ok) in
        let r = pred q (omega (arith, m.known)) ((m.lives q kq).1 alive) h (first_of t p + k) (omega arith) (place_low t g m p k kp lk) mark w in
        subst (λ z. Marked cells z z (first_of t q + 0)) (sym e) (subst (Marked cells j j) (sym (add-zero (first_of t q))) r))
    full_to (scan {p = p} {k = k} {h = h} {i = i} {a = a} before at kind here) le =
        by_end p (suc k) h (suc i) (scan before at kind here) le
        (λ e. subst (λ z. Marked cells h z (first_of t p + suc k)) (sym e) (based.scans p k h i a (sym e) before at kind here))
    full_to (complete {p = p} {k = k} {h = h} {i = i} {j = e} {q = q} before child at non ok) le =
        by_end p (suc k) h e (complete before child at non ok) le
        (λ same.
        let kp = item_known before in
        let kq = item_known child in
        let lk = item_dot before in
        let lh = item_order before in
        let li = item_order child in
        let less = at.0 in
        let mark = full_to before (omega arith) in
        let whole : Marked cells i j (last_of t q)
        = subst (Marked cells i j) (sym (m.final q kq)) (subst (λ z. Marked cells i z (first_of t q + size_of g q)) same (full_to child le)) in
        let w = (m.waits p k q kp lk kq).1 (at, non, ok) in
        let f = place_low t g m p (suc k) kp (omega arith) in
        let r = comp i (omega arith) q (omega (arith, m.known)) whole h (omega arith) (first_of t p + k) (omega arith) mark w in
        let sum : first_of t p + k + 1 ≡ first_of t p + suc k = omega arith in
        subst (λ z. Marked cells h z (first_of t p + suc k)) (sym same) (subst (Marked cells h j) sum r))

pub closes :
    (col : Column) (a b : List ℕ) (r : Bool) → Moved col a b r → Completed col b → Predicted col b → Closes col.tables.now col.end a b
closes col a b r v comp pred g ws m based full sound =
    let t = col.tables.now in
    let j = col.end in
    let base : Based t g ws b j = record {
      inits = λ p z alive is. kept v.growth (cell_of 0 0) (first_of t p) (based.inits p z alive is);
      scans = λ p k h i x e item at kind here. kept v.growth (cell_of h j) (first_of t p + suc k) (based.scans p k h i x e item at kind here);
    } in
    let old : Full t g ws b j = λ p k i e l item. kept v.growth (cell_of i e) (first_of t p + k) (full p k i e l item) in
    (λ p k i e l item. full_to col g ws b m base old comp pred item (omega arith), v.sound g ws m sound)
