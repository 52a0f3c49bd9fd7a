-- Items are decided.
use Rattle.std.proofs.Common.{◌≡◌, ℕ, suc, ◌<◌, ◌≤◌, ◌⊎◌, List, [], ◌∷◌, length, get_or, sym, refl, ap, subst, inl, inr, arith}
use mathlib.Core.List.{Memᴰ}
use mathlib.Core.Logic.Dec
use native.Mathlib.Decide.{dec_lt, ℕ_discrete, map_dec}
use Rattle.std.specs.List.{flat_map}
use Rattle.grammar.specs.Grammar.{Grammar, Nonterminal, Kind, At, Known, left_of, right_of, size_of}
use Rattle.grammar.specs.Order.{Conflict}
use Rattle.grammar.specs.Items.{Live, Item, init, predict, scan, complete}
use Rattle.grammar.specs.Sound.{Named}
use Rattle.theory.specs.Closed.{ItemClosed}
use Rattle.theory.specs.Decided.{ItemsDecided}
use Rattle.theory.proofs.Extending.{live_known}
use Rattle.theory.proofs.Sound.{item_live, item_range}
use Rattle.theory.proofs.Least.{item_least}
use Rattle.theory.proofs.Decisions.{either, any, member?, kind?, at?}
use Rattle.theory.proofs.Saturation.{upto, into_upto, into_joined, least_set}
use Rattle.theory.proofs.Conflicts.{conflict?}
use Rattle.theory.proofs.Live.{live?}

-- ---- the four numbers of an item

record Entry : Type 0 where
  production : ℕ
  dot : ℕ
  origin : ℕ
  ends : ℕ

abbrev entry : ℕ → ℕ → ℕ → ℕ → Entry
entry p k i j = record { production = p; dot = k; origin = i; ends = j }

same_entry : (x y : Entry) → Dec (x ≡ y)
same_entry x y =
    map_dec
    (λ h i. record { production = h.0 i; dot = h.1.0 i; origin = h.1.1.0 i; ends = h.1.1.1 i })
    (λ e. (ap (λ (z : Entry). z.production) e, (ap (λ (z : Entry). z.dot) e, (ap (λ (z : Entry). z.origin) e, ap (λ (z : Entry). z.ends) e))))
    (Dec.and
    (ℕ_discrete x.production y.production)
    (Dec.and (ℕ_discrete x.dot y.dot) (Dec.and (ℕ_discrete x.origin y.origin) (ℕ_discrete x.ends y.ends))))

abbrev ItemOf : Grammar → List ℕ → Entry → Type 0
ItemOf g ws x = Item g ws x.production x.dot x.origin x.ends

-- the entries of n words
abbrev entries : Grammar → ℕ → List Entry
entries g n =
    flat_map (λ p. flat_map (λ k. flat_map (λ i. flat_map (λ j. entry p k i j ∷ []) (upto n)) (upto n)) (upto (size_of g p))) (upto (length g.productions))

into_entries : (g : Grammar) (n p k i j : ℕ) → Known g p → k ≤ size_of g p → i ≤ n → j ≤ n → Memᴰ (entry p k i j) (entries g n)
into_entries g n p k i j lp lk li lj =
    into_joined
    (λ p. flat_map (λ k. flat_map (λ i. flat_map (λ j. entry p k i j ∷ []) (upto n)) (upto n)) (upto (size_of g p)))
    (into_upto (length g.productions) p (omega arith))
    (into_joined
    (λ k. flat_map (λ i. flat_map (λ j. entry p k i j ∷ []) (upto n)) (upto n))
    (into_upto (size_of g p) k lk)
    (into_joined (λ i. flat_map (λ j. entry p k i j ∷ []) (upto n)) (into_upto n i li) (into_joined (λ j. entry p k i j ∷ []) (into_upto n j lj) (Memᴰ.head refl))))

-- ---- the steps

-- the production q may stand at position k of p
abbrev Admits : Grammar → ℕ → ℕ → ℕ → Type 0
Admits g p k q = At (right_of g p) k (left_of g q) × (Nonterminal (left_of g q) × (¬ Conflict g p k q))

abbrev Inits : Grammar → Entry → Type 0
Inits g x = Live g x.production × ((left_of g x.production ≡ g.start) × (x ≡ entry x.production 0 0 0))

abbrev Predicts : Grammar → Entry → Entry → Type 0
Predicts g y x = Admits g y.production y.dot x.production × (Live g x.production × (x ≡ entry x.production 0 y.ends y.ends))

abbrev Scans : Grammar → List ℕ → Entry → Entry → Type 0
Scans g ws y x =
    At (right_of g y.production) y.dot (get_or ws y.ends 0)
    × (Kind (get_or ws y.ends 0) × ((y.ends < length ws) × (x ≡ entry y.production (suc y.dot) y.origin (suc y.ends))))

abbrev Completes : Grammar → Entry → Entry → Entry → Type 0
Completes g y z x =
    Admits g y.production y.dot z.production
    × ((z ≡ entry z.production (size_of g z.production) y.ends z.ends) × (x ≡ entry y.production (suc y.dot) y.origin z.ends))

-- x follows in one step from elements of D
abbrev Follows : Grammar → List ℕ → List Entry → Entry → Type 0
Follows g ws D x = Inits g x ⊎ ((y : Entry) × Memᴰ y D × (Predicts g y x ⊎ (Scans g ws y x ⊎ ((z : Entry) × Memᴰ z D × Completes g y z x))))

follows_item :
    (g : Grammar) (ws : List ℕ) (D : List Entry) (x : Entry) →
    ((y : Entry) → Memᴰ y D → ItemOf g ws y) →
    Follows g ws D x →
    ItemOf g ws x
follows_item g ws D x all (inl h) = subst (ItemOf g ws) (sym h.1.1) (init h.0 h.1.0)
follows_item g ws D x all (inr r) =
    let y = r.0 in
    let before = all y r.1 in
    elim r.2 [
      | inl h ↦ subst (ItemOf g ws) (sym h.1.1) (predict before h.0.0 h.0.1.0 h.0.1.1 h.1.0)
      | inr k ↦ elim k [
        | inl h ↦ subst (ItemOf g ws) (sym h.1.1.1) (scan before h.0 h.1.0 (h.1.1.0, refl))
        | inr h ↦
            let c = h.2 in
            let child = subst (ItemOf g ws) c.1.0 (all h.0 h.1) in
            subst (ItemOf g ws) (sym c.1.1) (complete before child c.0.0 c.0.1.0 c.0.1.1)
      ]
    ]

module _ (g : Grammar) (named : Named g) (ws : List ℕ) where
  admits? : (p k q : ℕ) → Dec (Admits g p k q)
  admits? p k q = Dec.and (at? (right_of g p) k (left_of g q)) (Dec.and (dec_lt (left_of g q) 16) (Dec.not (conflict? g named p k q)))

  inits? : (x : Entry) → Dec (Inits g x)
  inits? x = Dec.and (live? g named x.production) (Dec.and (ℕ_discrete (left_of g x.production) g.start) (same_entry x (entry x.production 0 0 0)))

  predicts? : (y x : Entry) → Dec (Predicts g y x)
  predicts? y x =
      Dec.and
      (admits? y.production y.dot x.production)
      (Dec.and (live? g named x.production) (same_entry x (entry x.production 0 y.ends y.ends)))

  scans? : (y x : Entry) → Dec (Scans g ws y x)
  scans? y x =
      Dec.and
      (at? (right_of g y.production) y.dot (get_or ws y.ends 0))
      (Dec.and
      (kind? (get_or ws y.ends 0))
      (Dec.and (dec_lt y.ends (length ws)) (same_entry x (entry y.production (suc y.dot) y.origin (suc y.ends)))))

  completes? : (y z x : Entry) → Dec (Completes g y z x)
  completes? y z x =
      Dec.and
      (admits? y.production y.dot z.production)
      (Dec.and
      (same_entry z (entry z.production (size_of g z.production) y.ends z.ends))
      (same_entry x (entry y.production (suc y.dot) y.origin z.ends)))

  follows? : (D : List Entry) (x : Entry) → Dec (Follows g ws D x)
  follows? D x = either (inits? x) (any (λ y. either (predicts? y x) (either (scans? y x) (any (λ z. completes? y z x) D))) D)

  -- ---- the items of the words

  found : (E : List Entry) × ((y : Entry) → Memᴰ y E → ItemOf g ws y) × ((x : Entry) → Memᴰ x (entries g (length ws)) → Follows g ws E x → Memᴰ x E)
  found = least_set (ItemOf g ws) (Follows g ws) follows? (follows_item g ws) (entries g (length ws))

  -- what follows from elements is an item, so it is a candidate
  found_more : (p k i j : ℕ) → Follows g ws found.0 (entry p k i j) → Memᴰ (entry p k i j) found.0
  found_more p k i j f =
      let item = follows_item g ws found.0 (entry p k i j) found.1 f in
      let r = item_range item in
      found.2 (entry p k i j) (into_entries g (length ws) p k i j (live_known (item_live item)) r.dots r.origins r.ends) f

  found_closed : ItemClosed g ws (λ p k i j. Memᴰ (entry p k i j) found.0)
  found_closed = record {
    inits = λ p alive is. found_more p 0 0 0 (inl (alive, (is, refl)));
    predicts = λ p k h i q up at low ok alive. found_more q 0 i i (inr (entry p k h i, up, inl ((at, (low, ok)), (alive, refl))));
    scans = λ p k h i a before at kind here.
        let e = sym here.1 in
        found_more p (suc k) h (suc i) (inr (entry p k h i, before, inr (inl (subst (At (right_of g p) k) e at, (subst Kind e kind, (here.0, refl))))));
    completes = λ p k h i j q before child at low ok.
        found_more p (suc k) h j (inr (entry p k h i, before, inr (inr (entry q (size_of g q) i j, child, ((at, (low, ok)), (refl, refl))))));
  }

  item_is : (p k i j : ℕ) → Dec (Item g ws p k i j)
  item_is p k i j =
      map_dec (found.1 (entry p k i j)) (item_least (λ p k i j. Memᴰ (entry p k i j) found.0) found_closed) (member? same_entry (entry p k i j) found.0)

pub item? : ItemsDecided
item? = item_is
