-- Equality of trees, with a test that computes.
use Rattle.std.proofs.Common.{◌≡◌, Bool, true, false, ◌&&◌, eqb, Decides, refl, subst}
use Rattle.std.proofs.lemmas.Bool.{false≢true, and_parts, and_from, eqb-true, eq-eqb}
use Rattle.grammar.specs.Trees.{Tree, node, Forest, bare, with_leaf, with_tree}

abbrev mutual
  pub same_tree : Tree → Tree → Bool
  same_tree (node p f) (node q h) = eqb p q && same_forest f h

  pub same_forest : Forest → Forest → Bool
  same_forest bare bare = true
  same_forest bare (with_leaf h b) = false
  same_forest bare (with_tree h u) = false
  same_forest (with_leaf f a) bare = false
  same_forest (with_leaf f a) (with_leaf h b) = eqb a b && same_forest f h
  same_forest (with_leaf f a) (with_tree h u) = false
  same_forest (with_tree f t) bare = false
  same_forest (with_tree f t) (with_leaf h b) = false
  same_forest (with_tree f t) (with_tree h u) = same_tree t u && same_forest f h

mutual
  tree_same : (t u : Tree) → same_tree t u ≡ true → t ≡ u
  tree_same (node p f) (node q h) e =
      let r = and_parts (eqb p q) (same_forest f h) e in
      let e₁ = eqb-true p q r.0 in
      let e₂ = forest_same f h r.1 in
      λ i. node (e₁ i) (e₂ i)

  forest_same : (f h : Forest) → same_forest f h ≡ true → f ≡ h
  forest_same bare bare e = refl
  forest_same bare (with_leaf h b) e = absurd (false≢true e)
  forest_same bare (with_tree h u) e = absurd (false≢true e)
  forest_same (with_leaf f a) bare e = absurd (false≢true e)
  forest_same (with_leaf f a) (with_leaf h b) e =
      let r = and_parts (eqb a b) (same_forest f h) e in
      let e₁ = eqb-true a b r.0 in
      let e₂ = forest_same f h r.1 in
      λ i. with_leaf (e₂ i) (e₁ i)
  forest_same (with_leaf f a) (with_tree h u) e = absurd (false≢true e)
  forest_same (with_tree f t) bare e = absurd (false≢true e)
  forest_same (with_tree f t) (with_leaf h b) e = absurd (false≢true e)
  forest_same (with_tree f t) (with_tree h u) e =
      let r = and_parts (same_tree t u) (same_forest f h) e in
      let e₁ = tree_same t u r.0 in
      let e₂ = forest_same f h r.1 in
      λ i. with_tree (e₂ i) (e₁ i)

mutual
  tree_itself : (t : Tree) → same_tree t t ≡ true
  tree_itself (node p f) = and_from (eqb p p) (same_forest f f) (eq-eqb p p refl) (forest_itself f)

  forest_itself : (f : Forest) → same_forest f f ≡ true
  forest_itself bare = refl
  forest_itself (with_leaf f a) = and_from (eqb a a) (same_forest f f) (eq-eqb a a refl) (forest_itself f)
  forest_itself (with_tree f t) = and_from (same_tree t t) (same_forest f f) (tree_itself t) (forest_itself f)

pub decides_tree : (t u : Tree) → Decides (same_tree t u) (t ≡ u)
decides_tree t u = (tree_same t u, λ e. subst (λ x. same_tree t x ≡ true) e (tree_itself t))

pub decides_forest : (f h : Forest) → Decides (same_forest f h) (f ≡ h)
decides_forest f h = (forest_same f h, λ e. subst (λ x. same_forest f x ≡ true) e (forest_itself f))
