-- The trees of a grammar in the numbers of another that has its productions, and no rules but its own. Assumes nothing.
use mathlib.Core.Path.{◌≡◌, refl, sym, ◌∙◌, ap, subst, subst₂}
use mathlib.Core.List.{[], ◌∷◌, ◌++◌}
use mathlib.Core.Logic.{inl, inr}
use Prim.Native.Nat.{ℕ, ◌<◌}
use native.Mathlib.Omega.{arith}
use native.Mathlib.Decide.{dec_lt}
use lib.ListN.{length}
use Rattle.grammar.specs.declared.rule.Relation.{Relation}
use Rattle.grammar.specs.declared.rule.Relation.TheVariants.{Priority, Left, Right, NonAssoc}
use Rattle.grammar.specs.Grammar.{Grammar, Nonterminal, At, Known, size_of}
use Rattle.grammar.specs.Order.{closure_one, closure_more, Ruled, Above, Beside, Says, Conflict, conflict_above, conflict_first, conflict_last}
use Rattle.grammar.specs.Sound.{Apart}
use Rattle.grammar.specs.Trees.{Tree, node, Forest, bare, with_leaf, with_tree, words, words_of, Covers, covers_none, covers_leaf, covers_tree, Free, free_node, Whole}
use Rattle.scales.specs.Scales.{Scale}
use Rattle.score_theory.specs.Scores.{price_of, product, products}
use Rattle.sameness.specs.Sames.{Alike, RulesIn}

pub alike_sym : {g h : Grammar} {p q : ℕ} → Alike g p h q → Alike h q g p
alike_sym a = record { here = a.there; there = a.here; lefts = sym a.lefts; rights = sym a.rights }

pub alike_trans : {g h k : Grammar} {p q r : ℕ} → Alike g p h q → Alike h q k r → Alike g p k r
alike_trans a b = record { here = a.here; there = b.there; lefts = a.lefts ∙ b.lefts; rights = a.rights ∙ b.rights }

-- two productions of one grammar
pub one_production : {g : Grammar} → Apart g.productions → {p q : ℕ} → Alike g p g q → p ≡ q
one_production apart {p} {q} a = apart p q (a.here, a.there, a.lefts, a.rights)

-- a choice below n, as a function
module _ {n : ℕ} {P : ℕ → ℕ → Type 0} (h : (p : ℕ) → p < n → (q : ℕ) × P p q) where
  abbrev chosen : (p : ℕ) → Dec (p < n) → ℕ
  chosen p (yes k) = (h p k).0
  chosen p (no k) = p

  chosen_is : (p : ℕ) (d : Dec (p < n)) → p < n → P p (chosen p d)
  chosen_is p (yes k) l = (h p k).1
  chosen_is p (no k) l = absurd (k l)

  pub pick : (ρ : ℕ → ℕ) × ((p : ℕ) → p < n → P p (ρ p))
  pick = (λ p. chosen p (dec_lt p n), λ p l. chosen_is p (dec_lt p n) l)

abbrev mutual
  pub renamed : (ℕ → ℕ) → Tree → Tree
  renamed ρ (node q f) = node (ρ q) (renamed_in ρ f)

  pub renamed_in : (ℕ → ℕ) → Forest → Forest
  renamed_in ρ bare = bare
  renamed_in ρ (with_leaf f a) = with_leaf (renamed_in ρ f) a
  renamed_in ρ (with_tree f t) = with_tree (renamed_in ρ f) (renamed ρ t)

mutual
  pub same_words : (ρ : ℕ → ℕ) (t : Tree) → words (renamed ρ t) ≡ words t
  same_words ρ (node q f) = same_words_of ρ f

  same_words_of : (ρ : ℕ → ℕ) (f : Forest) → words_of (renamed_in ρ f) ≡ words_of f
  same_words_of ρ bare = refl
  same_words_of ρ (with_leaf f a) = ap (λ l. l ++ (a ∷ [])) (same_words_of ρ f)
  same_words_of ρ (with_tree f t) = ap (λ l. l ++ words (renamed ρ t)) (same_words_of ρ f) ∙ ap (λ l. words_of f ++ l) (same_words ρ t)

-- the conflicts of h are conflicts of g
module _ {g h : Grammar} (apart : Apart g.productions) (rules : RulesIn h g) where
  says_back : {p q p' q' : ℕ} (r : Relation) → Alike g p h p' → Alike g q h q' → Ruled h.rules p' r q' → Says g.rules p r q
  says_back {p} {q} {p'} {q'} r hp hq m =
      let s = rules p' q' r m in
      let ep : s.0 ≡ p = sym (one_production apart (alike_trans hp s.2)) in
      let eq : s.1 ≡ q = sym (one_production apart (alike_trans hq s.3)) in
      subst₂ (λ x y. Says g.rules x r y) ep eq s.4

  above_back : {p' q' : ℕ} → Above h.rules p' q' → {p q : ℕ} → Alike g p h p' → Alike g q h q' → Above g.rules p q
  above_back (closure_one m) hp hq = closure_one (says_back Priority hp hq m)
  above_back (closure_more {x = p'} {y = m} k f) hp hq =
      let hm = alike_sym (rules p' m Priority k).3 in
      closure_more (says_back Priority hp hm k) (above_back f hm hq)

  flipped : {r : Relation} {p q : ℕ} → Beside g.rules p r q → Beside g.rules q r p
  flipped (inl m) = inr m
  flipped (inr m) = inl m

  beside_back : {p q p' q' : ℕ} (r : Relation) → ((x y : ℕ) → Says g.rules x r y → Beside g.rules x r y) → Alike g p h p' → Alike g q h q' → Beside h.rules p' r q' → Beside g.rules p r q
  beside_back {p} {q} r says hp hq (inl m) = says p q (says_back r hp hq m)
  beside_back {p} {q} r says hp hq (inr m) = flipped {r = r} (says q p (says_back r hq hp m))

  pub conflict_back : {p q p' q' k : ℕ} → Alike g p h p' → Alike g q h q' → Conflict h p' k q' → Conflict g p k q
  conflict_back hp hq (conflict_above m) = conflict_above (above_back m hp hq)
  conflict_back {p} {p' = p'} hp hq (conflict_first two is m) =
      let size : size_of g p ≡ size_of h p' = ap length hp.rights in
      conflict_first (omega arith) is (elim m [ inl k ↦ inl (beside_back Right (λ x y n. n) hp hq k) | inr k ↦ inr (beside_back NonAssoc (λ x y n. n) hp hq k) ])
  conflict_back {p} {p' = p'} hp hq (conflict_last two is m) =
      let size : size_of g p ≡ size_of h p' = ap length hp.rights in
      conflict_last (omega arith) (is ∙ sym size) (elim m [ inl k ↦ inl (beside_back Left (λ x y n. n) hp hq k) | inr k ↦ inr (beside_back NonAssoc (λ x y n. n) hp hq k) ])

-- the trees of g are trees of h
module _ {g h : Grammar} (apart : Apart g.productions) (rules : RulesIn h g) (ρ : ℕ → ℕ) (like : (p : ℕ) → Known g p → Alike g p h (ρ p)) where
  covers_renamed : {p k : ℕ} {f : Forest} → Known g p → Covers g p k f → Covers h (ρ p) k (renamed_in ρ f)
  covers_renamed kp covers_none = covers_none
  covers_renamed {p} kp (covers_leaf {k = k} {a = a} cf at kind) = covers_leaf (covers_renamed kp cf) (subst (λ r. At r k a) (like p kp).rights at) kind
  covers_renamed {p} kp (covers_tree {k = k} {q = q} {h = f'} cf at low ok kq cg) =
      let lp = like p kp in
      let lq = like q kq in
      covers_tree
      (covers_renamed kp cf)
      (subst₂ (λ r s. At r k s) lp.rights lq.lefts at)
      (subst Nonterminal lq.lefts low)
      (λ m. ok (conflict_back apart rules lp lq m))
      lq.there
      (subst (λ n. Covers h (ρ q) n (renamed_in ρ f')) (ap length lq.rights) (covers_renamed kq cg))

  free_renamed : {q : ℕ} {t : Tree} → Free g q t → (Known g q) × Free h (ρ q) (renamed ρ t)
  free_renamed (free_node {q = q} {f = f} kq cf) =
      let lq = like q kq in
      (kq, free_node lq.there (subst (λ n. Covers h (ρ q) n (renamed_in ρ f)) (ap length lq.rights) (covers_renamed kq cf)))

  pub whole_renamed : {t : Tree} → g.start ≡ h.start → Whole g t → Whole h (renamed ρ t)
  whole_renamed start w =
      let r = free_renamed w.is_free in
      record { top = ρ w.top; is_free = r.1; starts = sym (like w.top r.0).lefts ∙ w.starts ∙ start }

-- renaming keeps the product
module _ {S : Type 0} (s : Scale S) {g : Grammar} (h : Grammar) (ρ : ℕ → ℕ) (same : (p : ℕ) → Known g p → price_of g p ≡ price_of h (ρ p)) where
  products_renamed : {p k : ℕ} {f : Forest} → Covers g p k f → products s h (renamed_in ρ f) ≡ products s g f
  products_renamed covers_none = refl
  products_renamed (covers_leaf cf at kind) = ap (λ v. s.times v s.one) (products_renamed cf)
  products_renamed (covers_tree {q = q} {f = f} {h = f'} cf at low ok kq cg) =
      ap (λ v. s.times v (s.times (s.value (price_of h (ρ q))) (products s h (renamed_in ρ f')))) (products_renamed cf)
      ∙ ap (λ v. s.times (products s g f) (s.times (s.value v) (products s h (renamed_in ρ f')))) (sym (same q kq))
      ∙ ap (λ v. s.times (products s g f) (s.times (s.value (price_of g q)) v)) (products_renamed cg)

  product_of : {q : ℕ} {t : Tree} → Free g q t → product s h (renamed ρ t) ≡ product s g t
  product_of (free_node {q = q} {f = f} kq cf) =
      ap (λ v. s.times (s.value v) (products s h (renamed_in ρ f))) (sym (same q kq)) ∙ ap (λ v. s.times (s.value (price_of g q)) v) (products_renamed cf)

  pub product_renamed : {t : Tree} → Whole g t → product s h (renamed ρ t) ≡ product s g t
  product_renamed w = product_of w.is_free

-- renamed and back
module _ {g : Grammar} (ρ σ : ℕ → ℕ) (back : (p : ℕ) → Known g p → σ (ρ p) ≡ p) where
  covers_again : {p k : ℕ} {f : Forest} → Covers g p k f → renamed_in σ (renamed_in ρ f) ≡ f
  covers_again covers_none = refl
  covers_again (covers_leaf {a = a} cf at kind) = ap (λ x. with_leaf x a) (covers_again cf)
  covers_again (covers_tree {q = q} {f = f} {h = f'} cf at low ok kq cg) =
      ap (λ x. with_tree x (node (σ (ρ q)) (renamed_in σ (renamed_in ρ f')))) (covers_again cf)
      ∙ ap (λ n. with_tree f (node n (renamed_in σ (renamed_in ρ f')))) (back q kq)
      ∙ ap (λ x. with_tree f (node q x)) (covers_again cg)

  free_again : {q : ℕ} {t : Tree} → Free g q t → renamed σ (renamed ρ t) ≡ t
  free_again (free_node {q = q} {f = f} kq cf) = ap (λ n. node n (renamed_in σ (renamed_in ρ f))) (back q kq) ∙ ap (node q) (covers_again cf)

  pub again : {t : Tree} → Whole g t → renamed σ (renamed ρ t) ≡ t
  again w = free_again w.is_free
