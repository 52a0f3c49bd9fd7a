-- The chart of no words, of one word more and of one word less, and what a chart tells.
use Rattle.std.proofs.Common.{◌≡◌, ℕ, suc, ◌+◌, ◌*◌, ◌/◌, ◌%◌, ◌<◌, ◌≤◌, ◌⊎◌, ◌↔◌, List, [], ◌∷◌, ◌++◌, length, get_or, sym, refl, ap, ◌∙◌, subst, inl, inr, ⊎_elim, arith, length-append}
use Rattle.std.proofs.lemmas.Bool.{cases_eq, cases_lt}
use Rattle.grammar.specs.Grammar.{Grammar, Known, size_of}
use Rattle.grammar.specs.Items.{Item}
use Rattle.tables.specs.declared.tables.Tables.{Tables}
use Rattle.tables.specs.Meaning.{first_of, Before, Means}
use Rattle.theory.specs.Claims.{Awaited, Accepted}
use Rattle.chart.specs.Chart.{cell_of, Marked, Sound, Charted, WhereCharted}
use Rattle.chart.specs.Cells.{IsSet, Cleared, Gathered, Meets}
use Rattle.chart.specs.Columns.{Full, Based, Closes, Scanned, Started, Ends}
use Rattle.chart.proofs.Growing.{same_set, blank_set}
use Rattle.chart.proofs.Bounds.{live_known, item_live, item_known, item_dot, item_order, item_end, at_last, item_more, item_front}
use Rattle.chart.proofs.Places.{item_of, place_low}

charted :
    (t : Tables) (g : Grammar) (ws cells : List ℕ) (n : ℕ) → length ws ≡ n →
    Full t g ws cells (n + 1) × Sound t g ws cells → Charted t g ws cells
charted t g ws cells n e h = record { only = h.1; all = λ p k i j item. h.0 p k i j (let l = item_end item in omega arith) item }

-- ---- no words

pub opened :
    (t : Tables) (n : ℕ) (a b c e : List ℕ) → Cleared 0 4802 a b → n ≡ t.count → Started t n b c → Closes t 0 c e →
    (g : Grammar) → Means t g → Charted t g [] e
opened t n a b c e cl en st close g m =
    let none : Sound t g [] b
    = λ i j d li lj ld mark.
    absurd (blank_set b (cell_of i j) d (cl.blank (cell_of i j + d / 64) (omega arith) (omega arith)) mark) in
    charted t g [] e 0 refl
    (close g [] m
    (record {
      inits = λ p z alive is. let k = live_known alive in st.makes p (omega (arith, m.known)) ((m.starts p k).1 (alive, is));
      scans = λ p k h i x z. absurd (omega arith);
    })
    (λ p k i x l item. absurd (omega arith))
    (st.moved.1.sound g [] m none))

-- ---- one word more

module _
    (t : Tables) (n kind : ℕ) (lk : kind < 32) (a b c : List ℕ)
    (sc : Scanned t n kind (n + 1) a b) (close : Closes t (n + 1) b c)
    (g : Grammar) (ws : List ℕ) (m : Means t g) (len : length ws ≡ n) (chart : Charted t g ws a)
  where
    old_full : Full t g (ws ++ (16 + kind) ∷ []) a (n + 1)
    old_full p k i e l item = chart.all p k i e (item_front ws ((16 + kind) ∷ []) item (omega arith))

    old_sound : Sound t g (ws ++ (16 + kind) ∷ []) a
    old_sound i j d li lj ld mark =
        let x = chart.only i j d li lj ld mark in
        record { production = x.production; dot = x.dot; place = x.place; item = item_more ws ((16 + kind) ∷ []) x.item }

    new_based : Based t g (ws ++ (16 + kind) ∷ []) b (n + 1)
    new_based = record {
      inits = λ p z. absurd (omega arith);
      scans = λ p k h i x e item at is here.
          let same : i ≡ n = omega arith in
          let kp = item_known item in
          let ld = item_dot item in
          let lo = item_order item in
          let less = at.0 in
          let low = place_low t g m p (suc k) kp (omega arith) in
          let mark : Marked a h n (first_of t p + k) = subst (λ y. Marked a h y (first_of t p + k)) same (old_full p k h i (omega arith) item) in
          let word = at_last ws (16 + kind) n len in
          let w : Before t kind (first_of t p + k)
          = (m.befores p k kind kp ld lk).1 (at.0, at.1 ∙ sym here.1 ∙ ap (λ y. get_or (ws ++ (16 + kind) ∷ []) y 0) same ∙ word.1) in
          let r = sc.makes h (first_of t p + k) (omega arith) (omega arith) mark w in
          let sum : first_of t p + k + 1 ≡ first_of t p + suc k = omega arith in
          subst (Marked b h (n + 1)) sum r;
    }

    pub put_charted : Charted t g (ws ++ (16 + kind) ∷ []) c
    put_charted =
        charted t g (ws ++ (16 + kind) ∷ []) c (n + 1) (omega (arith, length-append ws ((16 + kind) ∷ [])))
        (close g (ws ++ (16 + kind) ∷ []) m new_based
        (λ p k i e l item. sc.grows (cell_of i e + (first_of t p + k) / 64) ((first_of t p + k) % 64) (old_full p k i e l item))
        (sc.sound g (ws ++ (16 + kind) ∷ []) m (at_last ws (16 + kind) n len) old_sound))

-- ---- one word less

pub taken_back : (n : ℕ) (b e : List ℕ) → n ≤ 48 → Cleared (98 * n) (98 * (n + 1)) b e →
    (t : Tables) (g : Grammar) (ws : List ℕ) (a : ℕ) → Means t g → length ws + 1 ≡ n → Charted t g (ws ++ a ∷ []) b → Charted t g ws e
taken_back n b e ln cl t g ws a m len chart = record {
  only = λ i j d li lj ld mark.
      let z = d / 64 in
      ⊎_elim
      (λ (same : j ≡ n). absurd (blank_set e (cell_of i j) d (cl.blank (cell_of i j + z) (omega arith) (omega arith)) mark))
      (λ (other : ¬ (j ≡ n)).
      let was : Marked b i j d = same_set e b (cell_of i j) d (sym (cl.other (cell_of i j + z) (apart i j z (omega arith) li other))) mark in
      let x = chart.only i j d li lj ld was in
      let l = item_end x.item in
      record {
        production = x.production;
        dot = x.dot;
        place = x.place;
        item = item_front ws (a ∷ []) x.item (omega (arith, other, length-append ws (a ∷ [])));
      })
      (cases_eq j n);
  all = λ p k i j item.
      let l = item_end item in
      let o = item_order item in
      let low = place_low t g m p k (item_known item) (item_dot item) in
      let d = first_of t p + k in
      same_set b e (cell_of i j) d (cl.other (cell_of i j + d / 64) (inl (omega arith))) (chart.all p k i j (item_more ws (a ∷ []) item));
}
  where
    apart : (i j z : ℕ) → z < 2 → i ≤ 48 → (¬ (j ≡ n)) → (cell_of i j + z < 98 * n) ⊎ (98 * (n + 1) ≤ cell_of i j + z)
    apart i j z lz li ne = ⊎_elim (λ (l : j < n). inl (omega arith)) (λ (l : n ≤ j). inr (omega (arith, ne))) (cases_lt j n)

-- ---- what a chart tells

pub awaited :
    (t : Tables) (n kind : ℕ) (ps mask : ℕ) (cells : List ℕ) → n ≤ 48 → kind < 32 → Gathered cells n (n + 1) ps →
    IsSet mask t.before kind →
    WhereCharted t n cells (λ g ws. Meets ps mask ↔ Awaited g ws (16 + kind))
awaited t n kind ps mask cells ln lk ga is g ws m len chart = (
  λ meets.
      let s = ga.only meets.0 meets.1 meets.2 in
      let li = s.1 in
      let x = chart.only s.0 n meets.0 (omega arith) ln meets.1 s.2 in
      let item = x.item in
      let at = (m.befores x.production x.dot kind (item_known item) (item_dot item) lk).0 (subst (Before t kind) x.place ((is meets.0 meets.1).0 meets.3)) in
      (x.production, x.dot, s.0, subst (Item g ws x.production x.dot s.0) (sym len) item, at),
  λ w.
      let p = w.0 in
      let k = w.1 in
      let i = w.2 in
      let item : Item g ws p k i n = subst (Item g ws p k i) len w.3 in
      let kp = item_known item in
      let ld = item_dot item in
      let lo = item_order item in
      let low = place_low t g m p k kp ld in
      (first_of t p + k, low, ga.all i (first_of t p + k) (omega arith) low (chart.all p k i n item), (is (first_of t p + k) low).1 ((m.befores p k kind kp ld lk).1 w.4)),
)

pub accepted :
    (t : Tables) (n : ℕ) (cells : List ℕ) (q : ℕ) → n ≤ 48 → q < t.count → Ends t n cells q →
    WhereCharted t n cells Accepted
accepted t n cells q ln l h g ws m len chart =
    let kq : Known g q = omega (arith, m.known) in
    let item : Item g ws q (size_of g q) 0 n
    = item_of t g ws cells m chart.only q (size_of g q) 0 n kq (omega arith) (omega arith) ln (subst (Marked cells 0 n) (m.final q kq) h.1) in
    (q, subst (Item g ws q (size_of g q) 0) (sym len) item, ((m.starts q kq).0 h.0).1)

pub not_accepted :
    (t : Tables) (n : ℕ) (cells : List ℕ) → ((q : ℕ) → q < t.count → ¬ Ends t n cells q) →
    WhereCharted t n cells (λ g ws. ¬ Accepted g ws)
not_accepted t n cells none g ws m len chart w =
    let p = w.0 in
    let item : Item g ws p (size_of g p) 0 n = subst (Item g ws p (size_of g p) 0) len w.1 in
    let kp = item_known item in
    none p (omega (arith, m.known))
    ((m.starts p kp).1 (item_live item, w.2), subst (Marked cells 0 n) (sym (m.final p kp)) (chart.all p (size_of g p) 0 n item))
