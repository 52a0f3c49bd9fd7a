-- The places of a grammar's tables, and the items of a chart by production and dot.
use Rattle.std.proofs.Common.{◌≡◌, ℕ, zero, suc, ◌+◌, ◌<◌, ◌≤◌, List, refl, ap, ⊎_elim, arith}
use Rattle.std.proofs.lemmas.Bool.{cases_order}
use Rattle.grammar.specs.Grammar.{Grammar, Known, size_of}
use Rattle.grammar.specs.Items.{Item}
use Rattle.tables.specs.declared.tables.Tables.{Tables}
use Rattle.tables.specs.Meaning.{first_of, last_of, Means}
use Rattle.chart.specs.Chart.{Marked, Sound}
use Rattle.chart.proofs.Bounds.{item_known, item_dot, item_at}

-- the places of a production come before those of a later one
apart : (t : Tables) (g : Grammar) → Means t g → (p q : ℕ) → p < q → Known g q → last_of t p < first_of t q
apart t g m p zero h l = absurd (omega arith)
apart t g m p (suc q) h l =
    let n = m.next q l in
    ⊎_elim
    (λ (e : p ≡ q). let s : last_of t p ≡ last_of t q = ap (last_of t) e in omega arith)
    (⊎_elim
    (λ (s : p < q). let i = apart t g m p q s (omega arith) in let f = m.final q (omega arith) in omega arith)
    (λ (s : q < p). absurd (omega arith)))
    (cases_order p q)

-- a place belongs to one production and one position of the dot
pub same_place :
    (t : Tables) (g : Grammar) → Means t g → (p k q l : ℕ) → Known g p → Known g q → k ≤ size_of g p →
    l ≤ size_of g q →
    first_of t p + k ≡ first_of t q + l → (p ≡ q) × (k ≡ l)
same_place t g m p k q l kp kq lk ll e =
    let fp = m.final p kp in
    let fq = m.final q kq in
    ⊎_elim
    (λ (s : p ≡ q). (s, let f : first_of t p ≡ first_of t q = ap (first_of t) s in omega arith))
    (⊎_elim
    (λ (s : p < q). let a = apart t g m p q s kq in absurd (omega arith))
    (λ (s : q < p). let a = apart t g m q p s kp in absurd (omega arith)))
    (cases_order p q)

pub place_low : (t : Tables) (g : Grammar) → Means t g → (p k : ℕ) → Known g p → k ≤ size_of g p → first_of t p + k < 128
place_low t g m p k kp l = let f = m.final p kp in let h = t.high p (omega (arith, m.known)) in omega arith

-- what is marked at the place of a production and a dot is that item
pub item_of :
    (t : Tables) (g : Grammar) (ws cells : List ℕ) → Means t g → Sound t g ws cells → (p k i j : ℕ) → Known g p →
    k ≤ size_of g p → i ≤ 48 → j ≤ 48 →
    Marked cells i j (first_of t p + k) → Item g ws p k i j
item_of t g ws cells m sound p k i j kp lk li lj mark =
    let x = sound i j (first_of t p + k) li lj (place_low t g m p k kp lk) mark in
    let item = x.item in
    let same = same_place t g m p k x.production x.dot kp (item_known item) lk (item_dot item) x.place in
    item_at same.0 same.1 refl refl item
