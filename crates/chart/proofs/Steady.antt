-- What each step on a column keeps.
use Rattle.std.proofs.Common.{◌≡◌, ℕ, suc, ◌+◌, ◌/◌, ◌%◌, ◌<◌, ◌≤◌, Bool, false, ◌||◌, List, get_or, sym, refl, ◌∙◌, subst, ⊎_elim, arith}
use Rattle.std.proofs.lemmas.Bool.{cases_eq, or_parts}
use Rattle.bitset.specs.Bits.{Has}
use Rattle.grammar.specs.Grammar.{Grammar, Known, size_of}
use Rattle.grammar.specs.Items.{Item, init, predict, scan, complete}
use Rattle.tables.specs.declared.tables.Tables.{Tables}
use Rattle.bitset.specs.Cells.{InSet}
use Rattle.tables.specs.Meaning.{first_of, last_of, Waits, Alive}
use Rattle.chart.specs.Chart.{cell_of, Marked, Sound}
use Rattle.chart.specs.declared.column.Column.{Column}
use Rattle.chart.specs.Cells.{Added, Advanced, IsSet, Seen, Meets}
use Rattle.chart.specs.Columns.{Outside, Moves, Moved, Scanned, Started}
use Rattle.chart.proofs.Growing.{then_grows, kept, same_set}
use Rattle.chart.proofs.Bounds.{item_known, item_dot, item_at}
use Rattle.chart.proofs.Places.{item_of}

-- ---- new marks are derivable items

advanced_sound : (t : Tables) (g : Grammar) (ws : List ℕ) (i s j : ℕ) (mask : ℕ) (a b : List ℕ) (r : Bool) →
    Advanced (cell_of i j) (cell_of i s) mask a b r → i ≤ 48 → s ≤ 48 → j ≤ 48 →
    ((p k : ℕ) → Item g ws p k i s → first_of t p + k < 128 → Has mask (first_of t p + k) → Item g ws p (suc k) i j) →
    Sound t g ws a → Sound t g ws b
advanced_sound t g ws i s j mask a b r v li ls lj next sound h e d lh le ld mark =
    ⊎_elim
    (λ (same : cell_of h e ≡ cell_of i j).
    let ej : e ≡ j = omega arith in
    let hi : h ≡ i = omega arith in
    ⊎_elim
    (λ (old : Marked a i j d). sound h e d lh le ld (subst (λ x. InSet a x d) (sym same) old))
    (λ (new : (x : ℕ) × (d ≡ x + 1) × Marked a i s x × Has mask x).
    let up : d ≡ new.0 + 1 = new.1 in
    let was = sound i s new.0 li ls (omega arith) new.2 in
    let place : new.0 ≡ first_of t was.production + was.dot = was.place in
    let item : Item g ws was.production (suc was.dot) i j
    = next was.production was.dot was.item (omega arith) (subst (Has mask) was.place new.3) in
    record {
      production = was.production;
      dot = suc was.dot;
      place = omega arith;
      item = item_at refl refl hi ej item;
    })
    (v.only d ld (subst (λ x. InSet b x d) same mark)))
    (λ (n : ¬ (cell_of h e ≡ cell_of i j)).
    let z = d / 64 in
    sound h e d lh le ld
    (same_set b a (cell_of h e) d (sym (v.other (cell_of h e + z) (λ q. n (omega arith)) (λ q. n (omega arith)))) mark))
    (cases_eq (cell_of h e) (cell_of i j))

added_sound : (t : Tables) (g : Grammar) (ws : List ℕ) (i j q : ℕ) (a b : List ℕ) (r : Bool) →
    Added (cell_of i j) (first_of t q) a b r → i ≤ 48 → j ≤ 48 → first_of t q < 128 → Item g ws q 0 i j → Sound t g ws a → Sound t g ws b
added_sound t g ws i j q a b r v li lj lq item sound h e d lh le ld mark =
    ⊎_elim
    (λ (same : cell_of h e ≡ cell_of i j).
    let ej : e ≡ j = omega arith in
    let hi : h ≡ i = omega arith in
    ⊎_elim
    (λ (old : Marked a i j d). sound h e d lh le ld (subst (λ x. InSet a x d) (sym same) old))
    (λ (new : d ≡ first_of t q).
    record {
      production = q;
      dot = 0;
      place = omega arith;
      item = item_at refl refl hi ej item;
    })
    (v.only d ld (subst (λ x. InSet b x d) same mark)))
    (λ (n : ¬ (cell_of h e ≡ cell_of i j)).
    let z = d / 64 in
    let y = first_of t q / 64 in
    sound h e d lh le ld (same_set b a (cell_of h e) d (sym (v.other (cell_of h e + z) (λ q. n (omega arith)))) mark))
    (cases_eq (cell_of h e) (cell_of i j))

-- a cell outside column j is none of the column's
not_outside : (i j k z : ℕ) → i ≤ 48 → z < 2 → Outside j k → ¬ (k ≡ cell_of i j + z)
not_outside i j k z li lz o e = ⊎_elim {C = ⊥} (λ (x : k < cell_of 0 j). omega arith) (λ (x : cell_of 0 (j + 1) ≤ k). omega arith) o

outside_advanced :
    (i s j : ℕ) (mask : ℕ) (a b : List ℕ) (r : Bool) → Advanced (cell_of i j) (cell_of i s) mask a b r → i ≤ 48 →
    (k : ℕ) → Outside j k → get_or b k 0 ≡ get_or a k 0
outside_advanced i s j mask a b r v li k o =
    v.other k (λ e. not_outside i j k 0 li (omega arith) o (omega arith)) (not_outside i j k 1 li (omega arith) o)

outside_added :
    (t : Tables) (i j q : ℕ) (a b : List ℕ) (r : Bool) → Added (cell_of i j) (first_of t q) a b r → i ≤ 48 →
    first_of t q < 128 →
    (k : ℕ) → Outside j k → get_or b k 0 ≡ get_or a k 0
outside_added t i j q a b r v li lq k o = v.other k (not_outside i j k (first_of t q / 64) li (omega arith) o)

-- ---- steps

pub moves_then : {t : Tables} {j : ℕ} {a b c : List ℕ} {r s : Bool} → Moves t j a b r → Moves t j b c s → Moves t j a c (r || s)
moves_then f h = record {
  growth = then_grows f.growth h.growth;
  other = λ k o. h.other k o ∙ f.other k o;
  sound = λ g ws m l. h.sound g ws m (f.sound g ws m l);
}

-- completion of q, whole from s to j, at the origin i
pub completed :
    (t : Tables) (i s j q : ℕ) (mask : ℕ) (a b : List ℕ) (r : Bool) → IsSet mask t.waits q →
    Advanced (cell_of i j) (cell_of i s) mask a b r →
    i ≤ s → s ≤ j → j ≤ 48 → q < t.count → Marked a s j (last_of t q) → Moves t j a b r
completed t i s j q mask a b r is v li ls lj lq whole = record {
  growth = v.growth;
  other = outside_advanced i s j mask a b r v (omega arith);
  sound = λ g ws m sound.
      let kq : Known g q = omega (arith, m.known) in
      let child : Item g ws q (size_of g q) s j
      = item_of t g ws a m sound q (size_of g q) s j kq (omega arith) (omega arith) lj (subst (Marked a s j) (m.final q kq) whole) in
      advanced_sound t g ws i s j mask a b r v (omega arith) (omega arith) lj
      (λ p k item l w.
      let f = (m.waits p k q (item_known item) (item_dot item) kq).0 ((is (first_of t p + k) l).0 w) in complete item child f.0 f.1 f.2)
      sound;
}

-- prediction of q at j
pub predicted : (t : Tables) (j q : ℕ) (ps mask : ℕ) (a b : List ℕ) (r : Bool) → Added (cell_of j j) (first_of t q) a b r →
    j ≤ 48 → q < t.count → Alive t q → Seen a j (j + 1) ps → IsSet mask t.waits q → Meets ps mask → Moves t j a b r
predicted t j q ps mask a b r v lj lq alive seen is meets = record {
  growth = v.growth;
  other = outside_added t j j q a b r v lj (t.low q lq);
  sound = λ g ws m sound.
      let kq : Known g q = omega (arith, m.known) in
      let s = seen meets.0 meets.1 meets.2 in
      let li = s.1 in
      let x = sound s.0 j meets.0 (omega arith) lj meets.1 s.2 in
      let item = x.item in
      let f = (m.waits x.production x.dot q (item_known item) (item_dot item) kq).0 (subst (Waits t q) x.place ((is meets.0 meets.1).0 meets.3)) in
      added_sound t g ws j j q a b r v lj lj (t.low q lq) (predict item f.0 f.1 f.2 ((m.lives q kq).0 alive)) sound;
}

-- the first item of a start production
pub started :
    (t : Tables) (p : ℕ) (a b : List ℕ) (r : Bool) → Added (cell_of 0 0) (first_of t p) a b r → p < t.count →
    Has t.starts p → Moves t 0 a b r
started t p a b r v lp on = record {
  growth = v.growth;
  other = outside_added t 0 0 p a b r v (omega arith) (t.low p lp);
  sound = λ g ws m sound.
      let kp : Known g p = omega (arith, m.known) in
      let f = (m.starts p kp).0 on in
      added_sound t g ws 0 0 p a b r v (omega arith) (omega arith) (t.low p lp) (init f.0 f.1) sound;
}

-- ---- a range of steps

-- steps from a to b; if nothing changed, P holds of b for the numbers below n
abbrev pub Pass : (List ℕ → ℕ → Type 0) → Column → ℕ → List ℕ → List ℕ → Bool → Type 0
Pass P col n a b r = Moved col a b r × (r ≡ false → (k : ℕ) → k < n → P b k)

pub pass_step :
    (P : List ℕ → ℕ → Type 0) (col : Column) (n : ℕ) {a b c : List ℕ} {was r : Bool} → Pass P col n a b was → Moved col b c r →
    (r ≡ false → P c n) → Pass P col (n + 1) a c (was || r)
pass_step P col n {b = b} {c = c} {was = was} {r = r} old new here = (
  moves_then old.0 new,
  λ off k l.
      let parts = or_parts was r off in
      ⊎_elim
      (λ (e : k ≡ n). subst (P c) (sym e) (here parts.1))
      (λ (o : ¬ (k ≡ n)). subst (λ x. P x k) (sym (new.growth.quiet parts.1)) (old.1 parts.0 k (omega (arith, o))))
      (cases_eq k n),
)

-- ---- the first items

pub started_more :
    (t : Tables) (n : ℕ) (a b c : List ℕ) (r : Bool) → Started t n a b → Moves t 0 b c r →
    (Has t.starts n → Marked c 0 0 (first_of t n)) → Started t (n + 1) a c
started_more t n a b c r s v here = record {
  moved = (_, moves_then s.moved.1 v);
  makes = λ p l h.
      ⊎_elim (λ (e : p ≡ n). subst (λ x. Marked c 0 0 (first_of t x)) (sym e) (here (subst (Has t.starts) e h)))
      (λ (o : ¬ (p ≡ n)). kept v.growth (cell_of 0 0) (first_of t p) (s.makes p (omega (arith, o)) h)) (cases_eq p n);
}

-- ---- scanning

pub scanned_more :
    (t : Tables) (j kind n : ℕ) (mask : ℕ) (a b c : List ℕ) (r : Bool) → j < 48 → kind < 32 → n < j + 1 →
    IsSet mask t.before kind →
    Scanned t j kind n a b →
    Advanced (cell_of n (j + 1)) (cell_of n j) mask b c r → Scanned t j kind (n + 1) a c
scanned_more t j kind n mask a b c r lj lk ln is s v = record {
  grows = λ k e h. v.growth.grows k e (s.grows k e h);
  other = λ k o. outside_advanced n j (j + 1) mask b c r v (omega arith) k o ∙ s.other k o;
  sound = λ g ws m word sound.
      advanced_sound t g ws n j (j + 1) mask b c r v (omega arith) (omega arith) (omega arith)
      (λ p k item l w.
      let at = (m.befores p k kind (item_known item) (item_dot item) lk).0 ((is (first_of t p + k) l).0 w) in
      let sum : j + 1 ≡ suc j = omega arith in
      subst (Item g ws p (suc k) n) (sym sum) (scan item at (omega arith, omega arith) word))
      (s.sound g ws m word sound);
  makes = λ i d l ld mark w.
      ⊎_elim
      (λ (e : i ≡ n).
      let here : Marked b n j d = s.grows (cell_of n j + d / 64) (d % 64) (subst (λ x. Marked a x j d) e mark) in
      subst (λ x. Marked c x (j + 1) (d + 1)) (sym e) (v.makes d ld here ((is d (omega arith)).1 w)))
      (λ (o : ¬ (i ≡ n)). kept v.growth (cell_of i (j + 1)) (d + 1) (s.makes i d (omega (arith, o)) ld mark w))
      (cases_eq i n);
}
