-- All conflict-free ways through the first symbols of a production, up to a depth.
use Rattle.std.proofs.Common.{◌≡◌, ℕ, zero, suc, ◌<◌, ◌≤◌, max, ◌⊎◌, List, [], ◌∷◌, map, length, get_or, sym, refl, ap, ◌∙◌, subst, inl, inr, arith}
use mathlib.Core.Logic.Dec
use native.Mathlib.Decide.{dec_lt, map_dec}
use Rattle.std.specs.List.{flat_map}
use Rattle.grammar.specs.Grammar.{Grammar, Nonterminal, Kind, At, left_of, right_of, size_of}
use Rattle.grammar.specs.Trees.{Tree, node, Forest, bare, with_leaf, with_tree, Covers, covers_none, covers_leaf, covers_tree}
use Rattle.grammar.specs.Sound.{Named}
use Rattle.theory.proofs.Decisions.{kind?, at?}
use Rattle.theory.proofs.Conflicts.{conflict?}
use Rattle.score_theory.specs.Totals.{Enumerates}
use Rattle.score_theory.specs.Weights.{Choice}
use Rattle.score_theory.proofs.Enumerations.{enumerates_iff, enumerates_none, enumerates_one, enumerates_map, enumerates_joined, enumerates_if, enumerates_below, list_if, below}
use Rattle.score_theory.proofs.Depths.{depth_of}

-- ---- the last child of a forest

abbrev pub front : Forest → Forest
front bare = bare
front (with_leaf f a) = f
front (with_tree f t) = f

abbrev pub under : Tree → Forest
under (node q f) = f

abbrev pub top : Tree → ℕ
top (node q f) = q

abbrev pub last : Forest → Tree
last bare = node 0 bare
last (with_leaf f a) = node 0 bare
last (with_tree f t) = t

pub none_bare : {g : Grammar} {p k : ℕ} {f : Forest} → Covers g p k f → k ≡ 0 → f ≡ bare
none_bare covers_none e = refl
none_bare (covers_leaf c at kind) e = absurd (omega arith)
none_bare (covers_tree c at low ok known h) e = absurd (omega arith)

-- the last child is a leaf
abbrev pub Leafed : Grammar → ℕ → ℕ → Forest → Type 0
Leafed g p k z = (f : Forest) × (a : ℕ) × Covers g p k f × At (right_of g p) k a × Kind a × (z ≡ with_leaf f a)

-- the last child is a tree
abbrev pub Treed : Grammar → ℕ → ℕ → Forest → Type 0
Treed g p k z = (q : ℕ) × (f : Forest) × (h : Forest) × Choice g p k q × Covers g p k f × Covers g q (size_of g q) h × (z ≡ with_tree f (node q h))

pub last_part : {g : Grammar} {p k : ℕ} {z : Forest} → Covers g p (suc k) z → Leafed g p k z ⊎ Treed g p k z
last_part (covers_leaf {a = a} {f = f} c at kind) = inl (f, a, c, at, kind, refl)
last_part (covers_tree {q = q} {f = f} {h = h} c at low ok known below) = inr (q, f, h, (known, at, low, ok), c, below, refl)

-- where a kind stands at position k, the last child is a leaf of it
pub kind_last : {g : Grammar} {p k : ℕ} {z : Forest} (a : ℕ) → At (right_of g p) k a → Kind a → Covers g p (suc k) z → (f : Forest) × Covers g p k f × (z ≡ with_leaf f a)
kind_last a at kind c =
    elim (last_part c) [
      | inl r ↦ (r.0, r.2, r.5 ∙ ap (with_leaf r.0) (sym r.3.1 ∙ at.1))
      | inr r ↦ let same = sym r.3.1.1 ∙ at.1 in let low = r.3.2 in absurd (omega arith)
    ]

-- where a nonterminal stands there, it is a tree
pub tree_last : {g : Grammar} {p k : ℕ} {z : Forest} (B : ℕ) → At (right_of g p) k B → Nonterminal B → Covers g p (suc k) z → Treed g p k z
tree_last B at low c =
    elim (last_part c) [
      | inl r ↦ let same = sym r.3.1 ∙ at.1 in let kind = r.4 in absurd (omega arith)
      | inr r ↦ r
    ]

covers_size : {g : Grammar} {p k : ℕ} {f : Forest} → Covers g p k f → k ≤ size_of g p
covers_size covers_none = omega arith
covers_size (covers_leaf c at kind) = at.0
covers_size (covers_tree c at low ok known h) = at.0

-- ---- every front with every tree of q

abbrev pub pairs : ℕ → List Forest → List Forest → List Forest
pairs q fs hs = flat_map (λ f. map (λ h. with_tree f (node q h)) hs) fs

pub enumerates_pairs :
    {P R : Forest → Type 0} {fs hs : List Forest} (q : ℕ) →
    Enumerates P fs →
    Enumerates R hs →
    Enumerates (λ z. (f : Forest) × P f × ((h : Forest) × R h × (z ≡ with_tree f (node q h)))) (pairs q fs hs)
enumerates_pairs {R = R} {hs = hs} q all_fs all_hs =
    enumerates_joined
    {Q = λ f z. (h : Forest) × R h × (z ≡ with_tree f (node q h))}
    (λ f. map (λ h. with_tree f (node q h)) hs)
    front
    (λ f z r. ap front r.2)
    all_fs
    (λ f. enumerates_map (λ h. with_tree f (node q h)) (λ z. under (last z)) (λ h. refl) all_hs)

pub choice? : (g : Grammar) → Named g → (p k q : ℕ) → Dec (Choice g p k q)
choice? g named p k q =
    map_dec
    (λ h. (h.0, h.1.0, h.1.1.0, h.1.1.1))
    (λ h. (h.0, (h.1, (h.2, h.3))))
    (Dec.and
    (dec_lt q (length g.productions))
    (Dec.and (at? (right_of g p) k (left_of g q)) (Dec.and (dec_lt (left_of g q) 16) (Dec.not (conflict? g named p k q)))))

-- ---- all forests up to a depth

module _ (g : Grammar) (named : Named g) where
  -- a way of depth at most d
  abbrev pub Shallow : ℕ → ℕ → ℕ → Forest → Type 0
  Shallow d p k f = Covers g p k f × (depth_of f ≤ d)

  -- all children of q, less deep than d
  abbrev Inside : ℕ → ℕ → Forest → Type 0
  Inside d q h = Covers g q (size_of g q) h × (suc (depth_of h) ≤ d)

  abbrev AllOf : (Forest → Type 0) → Type 0
  AllOf P = (fs : List Forest) × Enumerates P fs

  next_leaf : (d p k a : ℕ) → At (right_of g p) k a → Kind a → AllOf (Shallow d p k) → AllOf (Shallow d p (suc k))
  next_leaf d p k a at kind fs = (
    map (λ f. with_leaf f a) fs.0,
    enumerates_iff
        (λ z r. subst (Shallow d p (suc k)) (sym r.2) (covers_leaf r.1.0 at kind, r.1.1))
        (λ z h.
        let r = kind_last a at kind h.0 in
        let deep : depth_of z ≡ depth_of r.0 = ap depth_of r.2 in
        let l = h.1 in
        (r.0, (r.1, omega arith), r.2))
        (enumerates_map (λ f. with_leaf f a) front (λ f. refl) fs.1),
  )

  abbrev Parts : ℕ → ℕ → ℕ → ℕ → Forest → Type 0
  Parts d p k q z = Choice g p k q × ((f : Forest) × Shallow d p k f × ((h : Forest) × Inside d q h × (z ≡ with_tree f (node q h))))

  next_tree : (d p k B : ℕ) → At (right_of g p) k B → Nonterminal B → ((q : ℕ) → AllOf (Inside d q)) → AllOf (Shallow d p k) → AllOf (Shallow d p (suc k))
  next_tree d p k B at low inside fs = (
    flat_map (λ q. list_if (choice? g named p k q) (pairs q fs.0 (inside q).0)) (below (length g.productions)),
    enumerates_iff
        to
        from
        (enumerates_joined
        {Q = Parts d p k}
        (λ q. list_if (choice? g named p k q) (pairs q fs.0 (inside q).0))
        (λ z. top (last z))
        (λ q z r. ap (λ z. top (last z)) r.1.2.2)
        (enumerates_below (length g.productions))
        (λ q. enumerates_if (choice? g named p k q) (enumerates_pairs q fs.1 (inside q).1))),
  )
    where
      to : (z : Forest) → ((q : ℕ) × (q < length g.productions) × Parts d p k q z) → Shallow d p (suc k) z
      to z r =
          let ch = r.2.0 in
          let wf = r.2.1.1 in
          let wh = r.2.1.2.1 in
          let l₁ = wf.1 in
          let l₂ = wh.1 in
          subst (Shallow d p (suc k)) (sym r.2.1.2.2) (covers_tree wf.0 ch.1 ch.2 ch.3 ch.0 wh.0, omega arith)

      from : (z : Forest) → Shallow d p (suc k) z → (q : ℕ) × (q < length g.productions) × Parts d p k q z
      from z h =
          let r = tree_last B at low h.0 in
          let deep : depth_of z ≡ max (depth_of r.1) (suc (depth_of r.2)) = ap depth_of r.6 in
          let l = h.1 in
          (r.0, r.3.0, (r.3, (r.1, (r.4, omega arith), (r.2, (r.5, omega arith), r.6))))

  next : (d p k : ℕ) → ((q : ℕ) → AllOf (Inside d q)) → AllOf (Shallow d p k) → AllOf (Shallow d p (suc k))
  next d p k inside fs =
      let s = get_or (right_of g p) k 0 in
      elim (dec_lt k (size_of g p)) [
        | no l ↦ ([], enumerates_none (λ z h. let m = covers_size h.0 in omega arith))
        | yes l ↦ elim (kind? s) [
          | yes kind ↦ next_leaf d p k s (l, refl) kind fs
          | no other ↦ elim (dec_lt s 16) [
            | yes low ↦ next_tree d p k s (l, refl) low inside fs
            | no high ↦ (
              [],
              enumerates_none (λ z h.
                  elim (last_part h.0) [
                    | inl r ↦ other (subst Kind (sym r.3.1) r.4)
                    | inr r ↦ high (subst Nonterminal (sym r.3.1.1) r.3.2)
                  ]),
            )
          ]
        ]
      ]

  fronts : (d p : ℕ) → ((q : ℕ) → AllOf (Inside d q)) → (k : ℕ) → AllOf (Shallow d p k)
  fronts d p inside zero = (
    bare ∷ [],
    enumerates_iff (λ z e. subst (Shallow d p 0) (sym e) (covers_none, omega arith)) (λ z h. none_bare h.0 refl) (enumerates_one bare),
  )
  fronts d p inside (suc k) = next d p k inside (fronts d p inside k)

  insides : (d q : ℕ) → AllOf (Inside d q)
  insides zero q = ([], enumerates_none (λ h i. let l = i.1 in omega arith))
  insides (suc d) q =
      let r = fronts d q (insides d) (size_of g q) in
      (r.0, enumerates_iff (λ f h. (h.0, let l = h.1 in omega arith)) (λ f h. (h.0, let l = h.1 in omega arith)) r.1)

  pub all_shallow : (d p k : ℕ) → (fs : List Forest) × Enumerates (Shallow d p k) fs
  all_shallow d p k = fronts d p (insides d) k
