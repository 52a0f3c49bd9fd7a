-- The items of a list of words, computed.
use Rattle.std.proofs.Common.{◌≡◌, ℕ, suc, ◌*◌, Bool, true, eqb, List, [], ◌++◌, length, Decides, All, sym, refl, subst}
use mathlib.Core.List.{Memᴰ}
use Rattle.std.specs.List.{flat_map}
use Rattle.std.proofs.lemmas.List.Elements.{All-nil, All-append}
use Rattle.std.proofs.lemmas.Bool.{eqb-true, eq-eqb}
use Rattle.std.proofs.lemmas.Bool.Decides.{Decides-like}
use Rattle.grammar.specs.Grammar.{Grammar, Kind, At, left_of, right_of, size_of, places}
use Rattle.grammar.specs.Items.{Live, Item, init, predict, scan, complete}
use Rattle.theory.specs.Closed.{ItemClosed}
use Rattle.theory.specs.Claims.{Accepted, Awaited}
use Rattle.theory.proofs.Least.{item_least}
use Rattle.small_grammars.proofs.Sets.{any, decides_any, when, all_of, all_parts, when_all, all_when, joined_all, all_joined, subset, saturate, saturate_all, subset_all}
use Rattle.small_grammars.proofs.Conflicts.{AboveExact}
use Rattle.small_grammars.proofs.Lives.{admits, decides_admits}
use Rattle.small_grammars.proofs.Entries.{Entry, entry, same_entry, decides_entry, accepts, decides_accepts, awaits, decides_awaits}
use Rattle.small_grammars.proofs.Moves.{reads, decides_reads, completes, decides_completes}

abbrev ItemOf : Grammar → List ℕ → Entry → Type 0
ItemOf g ws x = Item g ws x.production x.dot x.origin x.ends

-- the same item, by equal numbers
moved : {g : Grammar} {ws : List ℕ} {p k l h i j m : ℕ} → k ≡ l → h ≡ i → j ≡ m → Item g ws p k h j → Item g ws p l i m
moved {g} {ws} {p} {k} {l} {h} {i} {j} {m} e₁ e₂ e₃ x = subst (λ k. Item g ws p k i m) e₁ (subst (λ h. Item g ws p k h m) e₂ (subst (Item g ws p k h) e₃ x))

-- ---- what follows from entries, by the pairs A of the closed order and the live productions L

module _ (g : Grammar) (A : List (ℕ × ℕ)) (L ws : List ℕ) where
  abbrev init_by : ℕ → List Entry
  init_by p = when (eqb (left_of g p) g.start) (entry p 0 0 0)

  abbrev predict_by : Entry → ℕ → List Entry
  predict_by y q = when (admits g A y.production y.dot q) (entry q 0 y.ends y.ends)

  abbrev scan_by : Entry → List Entry
  scan_by y = when (reads g ws y) (entry y.production (suc y.dot) y.origin (suc y.ends))

  abbrev complete_by : Entry → Entry → List Entry
  complete_by y z = when (completes g A y z) (entry y.production (suc y.dot) y.origin z.ends)

  abbrev entry_by : List Entry → Entry → List Entry
  entry_by D y = flat_map (predict_by y) L ++ (scan_by y ++ flat_map (complete_by y) D)

  abbrev entry_step : List Entry → List Entry
  entry_step D = flat_map init_by L ++ flat_map (entry_by D) D

  -- there are at most as many entries, and each step before the last adds one
  abbrev bound : ℕ
  bound = places g.productions * (suc (length ws) * suc (length ws))

  abbrev pub entries : List Entry
  entries = saturate same_entry entry_step bound []

  -- nothing more follows
  abbrev pub entries_closed : Bool
  entries_closed = subset same_entry (entry_step entries) entries

  module _ (exact : AboveExact g A) (alive : (p : ℕ) → (Memᴰ p L → Live g p) × (Live g p → Memᴰ p L)) where
    -- ---- what follows from items is an item

    abbrev X : Entry → Type 0
    X = ItemOf g ws

    entry_keeps : (D : List Entry) → All X D → All X (entry_step D)
    entry_keeps D h =
        All-append X _ _
        (joined_all X init_by L (λ p m. when_all X _ _ (λ e. init ((alive p).0 m) (eqb-true (left_of g p) g.start e))))
        (joined_all X (entry_by D) D (λ y m.
        let before = all_of X D h m in
        All-append X _ _
        (joined_all X (predict_by y) L (λ q n. when_all X _ _ (λ e.
        let r = (decides_admits g A exact y.production y.dot q).0 e in predict before r.0 r.1.0 r.1.1 ((alive q).0 n))))
        (All-append X _ _
        (when_all X _ _ (λ e.
        let r = (decides_reads g ws y).0 e in scan before r.0 r.1.0 (r.1.1, refl)))
        (joined_all X (complete_by y) D (λ z n. when_all X _ _ (λ e.
        let r = (decides_completes g A exact y z).0 e in
        let child = moved r.0.1 r.0.0 refl (all_of X D h n) in
        complete before child r.1.0 r.1.1.0 r.1.1.1))))))

    -- ---- a closed list has every item

    module _ (D : List Entry) (h : All (λ x. Memᴰ x D) (entry_step D)) where
      abbrev In : Entry → Type 0
      In x = Memᴰ x D

      after : (y : Entry) → In y → All In (flat_map (predict_by y) L) × (All In (scan_by y) × All In (flat_map (complete_by y) D))
      after y m =
          let r = all_joined In (entry_by D) D (all_parts In (flat_map init_by L) (flat_map (entry_by D) D) h).1 m in
          let s = all_parts In (flat_map (predict_by y) L) (scan_by y ++ flat_map (complete_by y) D) r in
          (s.0, all_parts In (scan_by y) (flat_map (complete_by y) D) s.1)

      entry_in : ItemClosed g ws (λ p k i j. In (entry p k i j))
      entry_in = record {
        inits = λ p live is.
            all_when In (eqb (left_of g p) g.start) (entry p 0 0 0)
            (all_joined In init_by L (all_parts In (flat_map init_by L) (flat_map (entry_by D) D) h).0 ((alive p).1 live))
            (eq-eqb (left_of g p) g.start is);
        predicts = λ p k i j q m at low ok live.
            let y = entry p k i j in
            all_when In (admits g A p k q) (entry q 0 j j) (all_joined In (predict_by y) L (after y m).0 ((alive q).1 live)) ((decides_admits g A exact p k q).1 (at, (low, ok)));
        scans = λ p k i j a m at kind here.
            let y = entry p k i j in
            let e = sym here.1 in
            all_when In (reads g ws y) (entry p (suc k) i (suc j)) (after y m).1.0
            ((decides_reads g ws y).1 (subst (At (right_of g p) k) e at, (subst Kind e kind, here.0)));
        completes = λ p k h i j q m n at low ok.
            let y = entry p k h i in
            let z = entry q (size_of g q) i j in
            all_when In (completes g A y z) (entry p (suc k) h j) (all_joined In (complete_by y) D (after y m).1.1 n)
            ((decides_completes g A exact y z).1 ((refl, refl), (at, (low, ok))));
      }

    -- ---- exactly the items are found

    module _ (closed : entries_closed ≡ true) where
      found_item : {x : Entry} → Memᴰ x entries → X x
      found_item = all_of X entries (saturate_all same_entry X entry_step entry_keeps bound [] (All-nil X))

      item_found : {p k i j : ℕ} → Item g ws p k i j → Memᴰ (entry p k i j) entries
      item_found =
          item_least (λ p k i j. Memᴰ (entry p k i j) entries)
          (entry_in entries (subset_all same_entry decides_entry (entry_step entries) entries closed))

      -- ---- what the items say

      pub decides_accepted : Decides (any (accepts g ws) entries) (Accepted g ws)
      decides_accepted =
          Decides-like
          _
          (λ h. (h.0.production, moved h.2.0 h.2.1.0 h.2.1.1.0 (found_item h.1), h.2.1.1.1))
          (λ h. (entry h.0 (size_of g h.0) 0 (length ws), item_found h.1, (refl, (refl, (refl, h.2)))))
          (decides_any (accepts g ws) (decides_accepts g ws) entries)

      pub decides_awaited : (a : ℕ) → Decides (any (awaits g ws a) entries) (Awaited g ws a)
      decides_awaited a =
          Decides-like
          _
          (λ h. (h.0.production, h.0.dot, h.0.origin, moved refl refl h.2.0 (found_item h.1), h.2.1))
          (λ h. (entry h.0 h.1 h.2 (length ws), item_found h.3, (refl, h.4)))
          (decides_any (awaits g ws a) (decides_awaits g ws a) entries)
