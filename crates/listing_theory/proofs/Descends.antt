-- A child over its parent's words is of a nonterminal that the parent's leads to.
use Rattle.std.proofs.Common.{◌≡◌, ℕ, suc, ◌+◌, ◌-◌, ◌*◌, ◌<◌, ◌≤◌, List, [], ◌∷◌, ◌++◌, length, get_or, take, sym, refl, ap, ◌∙◌, subst, inl, inr, append_assoc, mul-le-mul_right, suc-mul, arith, length-append}
use native.Mathlib.Decide.{dec_lt}
use Rattle.std.proofs.lemmas.List.{take_at}
use Rattle.theory.proofs.Lists.{at_split}
use Rattle.listing_theory.proofs.Bridge.{rest_of_all}
use Rattle.listing_theory.specs.declared.record.Record.{Record}
use Rattle.grammar.specs.Grammar.{Grammar, At, Known, left_of, right_of, size_of}
use Rattle.grammar.specs.Trees.{Tree, node, Forest, words_of, Covers, covers_none, covers_leaf, covers_tree}
use Rattle.listing_theory.specs.Listings.{entry, listings}
use Rattle.listing_theory.specs.Ways.{Between, Rest, rest_end, rest_kind, rest_tree, Reach}
use Rattle.listing_theory.proofs.Firsts.{Steps}
use Rattle.grammar.specs.Order.{closure_one, closure_more}
use Rattle.grammar.specs.Derivations.{Nullable, nullable, Leads, LeadsOn}
use Rattle.listing_theory.specs.Paths.{ChildIn}

-- the rank falls from a nonterminal to what it leads to
abbrev pub Ranked : Grammar → (ℕ → ℕ) → Type 0
Ranked g r = (A B : ℕ) → Leads g.productions A B → r B < r A

-- in a tree of p over the words from i to j, a child is of q over those from s to e
pub record Child (g : Grammar) (ws : List ℕ) (p i j q s e : ℕ) : Type 0 where
  pub parent : Known g p
  pub place : ℕ
  pub before : Forest
  pub covers : Covers g p place before
  pub spells : Between ws i s (words_of before)
  pub steps : Steps g ws p place s j q e

-- and a node below it, at any depth
pub data Below (g : Grammar) (ws : List ℕ) : ℕ → ℕ → ℕ → ℕ → ℕ → ℕ → Type 0 where
  below_child : {p i j q s e : ℕ} → Child g ws p i j q s e → Below g ws p i j q s e
  below_more : {p i j q s e r u v : ℕ} → Child g ws p i j q s e → Below g ws q s e r u v → Below g ws p i j r u v

same_symbol : (xs : List ℕ) (i k s a : ℕ) → i ≡ k → At xs i s → At xs k a → a ≡ s
same_symbol xs i k s a e at here = sym here.1 ∙ ap (λ n. get_or xs n 0) (sym e) ∙ at.1

-- where the first k symbols have no words, each derives the empty row
nullable_covers :
    {g : Grammar} {p k : ℕ} {f : Forest} →
    Covers g p k f →
    length (words_of f) ≡ 0 →
    (m x : ℕ) →
    m < k →
    At (right_of g p) m x →
    Nullable g.productions x
nullable_covers covers_none e m x l at = absurd (omega arith)
nullable_covers (covers_leaf {a = a} {f = f} c here kind) e m x l at = let n = length-append (words_of f) (a ∷ []) in absurd (omega arith)
nullable_covers {g} {p} (covers_tree {k = k} {q = q} {f = f} {h = inner} c here low ok known cg) e m x l at =
    let n = length-append (words_of f) (words_of inner) in
    elim (dec_lt m k) [
      | yes h ↦ nullable_covers c (omega arith) m x h at
      | no h ↦
          let is : left_of g q ≡ x = same_symbol (right_of g p) m k x (left_of g q) (omega arith) at here in
          nullable known is (λ i y there. nullable_covers cg (omega arith) i y there.0 there)
    ]

pub rest_rises : {g : Grammar} {ws : List ℕ} {p k s j : ℕ} {xs : List Record} → Rest g ws p k s j xs → s ≤ j
rest_rises (rest_end e same) = omega arith
rest_rises (rest_kind at kind here rest) = let l = rest_rises rest in omega arith
rest_rises (rest_tree at low ok known child rest is) = let l = rest_rises child in let m = rest_rises rest in omega arith

nullable_rest :
    {g : Grammar} {ws : List ℕ} {p k s j : ℕ} {xs : List Record} →
    Rest g ws p k s j xs →
    j ≤ s →
    (m x : ℕ) →
    k ≤ m →
    At (right_of g p) m x →
    Nullable g.productions x
nullable_rest (rest_end e same) h m x l at = let n = at.0 in absurd (omega arith)
nullable_rest (rest_kind here kind word rest) h m x l at = let n = rest_rises rest in absurd (omega arith)
nullable_rest {g} {p = p} {k = k} (rest_tree {q = q} here low ok known child rest is) h m x l at =
    let n₁ = rest_rises child in
    let n₂ = rest_rises rest in
    elim (dec_lt k m) [
      | yes o ↦ nullable_rest rest (omega arith) m x o at
      | no o ↦
          let is : left_of g q ≡ x = same_symbol (right_of g p) m k x (left_of g q) (omega arith) at here in
          nullable known is (λ i y there. nullable_rest child (omega arith) i y (omega arith) there)
    ]

module _ {g : Grammar} {ws : List ℕ} where
  pub child_inside : {p i j q s e : ℕ} → Child g ws p i j q s e → (i ≤ s) × (s ≤ e) × (e ≤ j)
  child_inside c =
      let l₁ = c.spells.0 in
      let l₂ = rest_rises c.steps.1.1 in
      let l₃ = rest_rises c.steps.2.1 in
      (omega arith, l₂, l₃)

  pub child_leads : {p i j q s e : ℕ} → Child g ws p i j q s e → s ≡ i → e ≡ j → Leads g.productions (left_of g p) (left_of g q)
  child_leads {p} {q = q} c x y =
      let n = c.spells.0 in
      let fits = c.steps.0 in
      record {
        by = p;
        known = c.parent;
        of = refl;
        place = c.place;
        has = fits.1;
        below = fits.2;
        others = λ m z at apart.
            elim (dec_lt m c.place) [
              | yes l ↦ nullable_covers c.covers (omega arith) m z l at
              | no l ↦ nullable_rest c.steps.2.1 (omega arith) m z (let inner : c.place < m = omega arith in inner) at
            ];
      }

  pub below_inside : {p i j q s e : ℕ} → Below g ws p i j q s e → (i ≤ s) × (s ≤ e) × (e ≤ j)
  below_inside (below_child c) = child_inside c
  below_inside (below_more c d) = let x = child_inside c in let y = below_inside d in (omega arith, y.1, omega arith)

  pub below_leads : {p i j q s e : ℕ} → Below g ws p i j q s e → s ≡ i → e ≡ j → LeadsOn g.productions (left_of g p) (left_of g q)
  below_leads (below_child c) x y = closure_one (child_leads c x y)
  below_leads (below_more c d) x y =
      let m = child_inside c in let n = below_inside d in closure_more (child_leads c (omega arith) (omega arith))
      (below_leads d (omega arith) (omega arith))

  -- the measure of a recursion from parents to children
  pub child_falls :
      (r : ℕ → ℕ) (n : ℕ) →
      Ranked g r →
      ((A : ℕ) → r A < n) →
      {p i j q s e : ℕ} →
      Child g ws p i j q s e →
      (e - s) * n + r (left_of g q) < (j - i) * n + r (left_of g p)
  child_falls r n ranked small {p} {i} {j} {q} {s} {e} c =
      let m = child_inside c in
      elim (dec_lt (e - s) (j - i)) [
        | yes l ↦
            let k = small (left_of g q) in
            let w : suc (e - s) * n ≤ (j - i) * n = mul-le-mul_right n l in
            let v : suc (e - s) * n ≡ (e - s) * n + n = suc-mul (e - s) n in
            omega arith
        | no l ↦
            let k = ranked (left_of g p) (left_of g q) (child_leads c (omega arith) (omega arith)) in
            let v : (e - s) * n ≡ (j - i) * n = ap (λ x. x * n) (omega arith) in
            omega arith
      ]

-- ---- in a tree

-- the children inner stand behind pre in the words
abbrev pub Stands : List ℕ → List ℕ → Forest → Type 0
Stands ws pre inner = (post : List ℕ) × (ws ≡ pre ++ (words_of inner ++ post))

-- a child of a node: its production, its place in the words, and what is below it
abbrev pub ChildFound : Grammar → List ℕ → ℕ → ℕ → ℕ → Tree → ℕ → Type 0
ChildFound g ws p i j u s =
    (q : ℕ) × (inner : Forest) × (pre : List ℕ) × (u ≡ node q inner) × Known g q × Covers g q (size_of g q) inner × (length pre ≡ s) ×
    Stands ws pre inner × Child g ws p i j q s (s + length (words_of inner))

stands_spans :
    (ws pre : List ℕ) (inner : Forest) →
    Stands ws pre inner →
    Between ws (length pre) (length pre + length (words_of inner)) (words_of inner)
stands_spans ws pre inner h = (
  refl,
  ap (take (length pre + length (words_of inner))) (h.1 ∙ sym (append_assoc pre (words_of inner) h.0))
      ∙ take_at (pre ++ words_of inner) h.0 (length pre + length (words_of inner)) (length-append pre (words_of inner))
      ∙ ap (λ l. l ++ words_of inner) (sym (ap (take (length pre)) h.1 ∙ take_at pre (words_of inner ++ h.0) (length pre) refl)),
)

stands_reach :
    {g : Grammar} {q : ℕ} (ws pre : List ℕ) (inner : Forest) →
    Covers g q (size_of g q) inner →
    Stands ws pre inner →
    Reach g ws q 0 (length pre) (length pre + length (words_of inner))
stands_reach ws pre inner c h =
    let n : length ws ≡ length pre + length (words_of inner ++ h.0) = ap length h.1 ∙ length-append pre (words_of inner ++ h.0) in
    (listings (length pre) inner, rest_of_all c ws (length pre) (length pre + length (words_of inner)) (omega arith) (stands_spans ws pre inner h))

pub child_found :
    {g : Grammar} {p k : ℕ} {f : Forest} →
    Covers g p k f →
    Known g p →
    (ws pre post : List ℕ) →
    ws ≡ pre ++ (words_of f ++ post) →
    (j : ℕ) →
    Reach g ws p k (length pre + length (words_of f)) j →
    (u : Tree) (s : ℕ) →
    ChildIn (length pre) f u s →
    ChildFound g ws p (length pre) j u s
child_found covers_none known ws pre post e j can u s h = absurd h
child_found {g} {p} (covers_leaf {k = k} {a = a} {f = f} c at kind) known ws pre post e j can u s h =
    let here = at_split ws (pre ++ words_of f) a post (e ∙ simp append_assoc) in
    let n : length (pre ++ words_of f) ≡ length pre + length (words_of f) = length-append pre (words_of f) in
    let m : length pre + length (words_of f ++ (a ∷ [])) ≡ suc (length pre + length (words_of f)) = simp length-append (omega arith) in
    let can' : Reach g ws p k (length pre + length (words_of f)) j =
    (can.0, rest_kind at kind (subst (λ x. At ws x a) n here) (subst (λ x. Rest g ws p (suc k) x j can.0) m can.1)) in
    child_found c known ws pre (a ∷ post) (e ∙ simp append_assoc) j can' u s h
child_found {g} {p} (covers_tree {k = k} {q = q} {f = f} {h = inner} c at low ok kq cg) known ws pre post e j can u s h =
    let mid = pre ++ words_of f in
    let n : length mid ≡ length pre + length (words_of f) = length-append pre (words_of f) in
    let m : length pre + length (words_of f ++ words_of inner) ≡ length pre + length (words_of f) + length (words_of inner) = simp
    length-append (omega arith) in
    let split : ws ≡ mid ++ (words_of inner ++ post) = e ∙ simp append_assoc in
    let low_part : Reach g ws q 0 (length pre + length (words_of f)) (length pre + length (words_of f) + length (words_of inner)) =
    subst (λ x. Reach g ws q 0 x (x + length (words_of inner))) n (stands_reach ws mid inner cg (post, split)) in
    let after : Reach g ws p (suc k) (length pre + length (words_of f) + length (words_of inner)) j = subst (λ x. Reach g ws p (suc k) x j) m can in
    elim h [
      | inl r ↦ (
        q,
        inner,
        mid,
        r.0,
        kq,
        cg,
        n ∙ sym r.1,
        (post, split),
        subst (λ x. Child g ws p (length pre) j q x (x + length (words_of inner))) (sym r.1) (record {
          parent = known;
          place = k;
          before = f;
          covers = c;
          spells = stands_spans ws pre f (words_of inner ++ post, e ∙ simp append_assoc);
          steps = ((kq, at, low, ok), low_part, after);
        }),
      )
      | inr deeper ↦
          child_found c known ws pre (words_of inner ++ post) (e ∙ simp append_assoc) j (
            entry q (length pre + length (words_of f)) (length pre + length (words_of f) + length (words_of inner)) ∷
                (low_part.0 ++ after.0),
            rest_tree at low ok kq low_part.1 after.1 refl,
          ) u s deeper
    ]

pub same_node : (q r : ℕ) (f inner : Forest) → node q f ≡ node r inner → (q ≡ r) × (f ≡ inner)
same_node q r f inner e = (cc, cc)
