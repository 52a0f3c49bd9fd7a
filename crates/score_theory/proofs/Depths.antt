-- Where what leads to what has a rank, the ways over n words are no deeper than some number.
use Rattle.std.proofs.Common.{◌≡◌, ℕ, suc, ◌+◌, ◌*◌, ◌<◌, ◌≤◌, max, [], ◌∷◌, length, refl, ap, arith, length-append}
use native.Mathlib.Decide.{dec_lt}
use Rattle.std.proofs.lemmas.List.{get_or_past}
use Rattle.grammar.specs.Grammar.{Production, Grammar, At, Known, no_production, left_of, right_of}
use Rattle.grammar.specs.Derivations.{Nullable, nullable, Leads}
use Rattle.grammar.specs.Trees.{Tree, node, Forest, bare, with_leaf, with_tree, words_of, Covers, covers_none, covers_leaf, covers_tree}
use Rattle.score_theory.proofs.Empties.{same_symbol, nullable_covers, leads_at}

-- the number of productions on the longest path from a root
abbrev mutual
  pub depth : Tree → ℕ
  depth (node q f) = suc (depth_of f)

  pub depth_of : Forest → ℕ
  depth_of bare = 0
  depth_of (with_leaf f a) = depth_of f
  depth_of (with_tree f t) = max (depth_of f) (depth t)

-- an index past the last production has no symbols
past_size : (g : Grammar) (p : ℕ) → (¬ Known g p) → length (right_of g p) ≡ 0
past_size g p past = ap (λ (x : Production). length x.right) (get_or_past g.productions p no_production (omega arith))

past_depth : {g : Grammar} {p k : ℕ} {f : Forest} → (¬ Known g p) → Covers g p k f → depth_of f ≡ 0
past_depth past covers_none = refl
past_depth {g} {p} past (covers_leaf c at kind) = let n = past_size g p past in let l = at.0 in absurd (omega arith)
past_depth {g} {p} past (covers_tree c at low ok known h) = let n = past_size g p past in let l = at.0 in absurd (omega arith)

module _ (g : Grammar) (rank : ℕ → ℕ) (falls : (A B : ℕ) → Leads g.productions A B → rank B < rank A) (small : (A : ℕ) → rank A ≤ 16) where
  -- n words stand below p, of which those of f are the first; where they are all, the symbols behind f derive the empty list
  rank_depth :
      {p k : ℕ} {f : Forest} →
      Known g p →
      Covers g p k f →
      (n : ℕ) →
      length (words_of f) ≤ n →
      (n ≡ length (words_of f) → (x y : ℕ) → k ≤ x → At (right_of g p) x y → Nullable g.productions y) →
      depth_of f ≤ n * 17 + rank (left_of g p)
  rank_depth known covers_none n l rest = omega arith
  rank_depth {p} known (covers_leaf {k = k} {a = a} {f = f} c at kind) n l rest =
      let size = length-append (words_of f) (a ∷ []) in
      rank_depth known c n (omega arith) (λ e. absurd (omega arith))
  rank_depth {p} known (covers_tree {k = k} {q = q} {f = f} {h = h} c at low ok kq ch) n l rest =
      let size = length-append (words_of f) (words_of h) in
      let inside = rank_depth kq ch (length (words_of h)) (omega arith) (λ e x y m there. let b = there.0 in absurd (omega arith)) in
      let before = rank_depth known c n (omega arith) (λ e x y m there.
      elim (dec_lt k x) [
        | yes more ↦ rest (omega arith) x y more there
        | no here ↦
            nullable
            kq
            (same_symbol (right_of g p) x k y (left_of g q) (omega arith) there at)
            (λ i z inner. nullable_covers ch (omega arith) i z inner.0 inner)
      ]) in
      elim (dec_lt (length (words_of h)) n) [
        | yes less ↦ let s = small (left_of g q) in omega arith
        | no all ↦
            let r =
            falls (left_of g p) (left_of g q) (leads_at g p k (left_of g q) known at low
            (λ x y lx there. nullable_covers c (omega arith) x y lx there)
            (λ x y lx there. rest (omega arith) x y lx there)) in
            omega arith
      ]

  pub depth_bound : {p k : ℕ} {f : Forest} → Covers g p k f → (n : ℕ) → length (words_of f) ≤ n → depth_of f ≤ suc n * 17 + 16
  depth_bound {p} {f = f} c n l =
      elim (dec_lt p (length g.productions)) [
        | yes known ↦ let d = rank_depth known c (suc n) (omega arith) (λ e. absurd (omega arith)) in let s = small (left_of g p) in omega arith
        | no past ↦ let d = past_depth past c in omega arith
      ]
