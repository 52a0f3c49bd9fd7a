-- Paths down a tree meet no nonterminal twice over one span, and are short.
use Rattle.std.proofs.Common.{◌≡◌, ℕ, zero, suc, ◌+◌, ◌-◌, ◌*◌, ◌<◌, ◌≤◌, List, [], length, sym, refl, ap, ◌∙◌, subst, append-nil, arith}
use native.Mathlib.Decide.{dec_lt}
use Rattle.grammar.specs.Grammar.{Grammar, Known, left_of, size_of}
use Rattle.grammar.specs.Derivations.{LeadsOn}
use Rattle.grammar.specs.Sound.{Acyclic}
use Rattle.grammar.specs.Trees.{Tree, node, Forest, words, words_of, Covers, Free, free_node}
use Rattle.listing_theory.specs.declared.record.Record.{Record}
use Rattle.listing_theory.specs.Listings.{entry}
use Rattle.listing_theory.specs.Ways.{rest_end}
use Rattle.listing_theory.specs.Paths.{ChildIn, Path, path_root, path_down, record_at, Alike, ShortPaths}
use Rattle.listing_theory.proofs.Descends.{Child, Below, below_child, below_more, below_leads, child_falls, Ranked, Stands, child_found, same_node}
use Rattle.listing_theory.proofs.Ranks.{not_undecided_all, rank, ranked, rank_small}

-- the children f of the production p stand behind pre in the words
pub record Placed (g : Grammar) (ws : List ℕ) (t : Tree) (i p : ℕ) (f : Forest) : Type 0 where
  pub is : t ≡ node p f
  pub known : Known g p
  pub covers : Covers g p (size_of g p) f
  pub pre : List ℕ
  pub behind : length pre ≡ i
  pub stands : Stands ws pre f

-- the end of the words of f
abbrev end_of : ℕ → Forest → ℕ
end_of i f = i + length (words_of f)

-- a child on the path, and that it stands in the words too
abbrev Next : Grammar → List ℕ → ℕ → ℕ → Forest → Tree → ℕ → Type 0
Next g ws i p f u s = (q : ℕ) × (h : Forest) × Placed g ws u s q h × Child g ws p i (end_of i f) q s (end_of s h)

-- the record is that of a node below
abbrev Beneath : Grammar → List ℕ → ℕ → ℕ → ℕ → Record → Type 0
Beneath g ws p i j x = (q : ℕ) × (s : ℕ) × (e : ℕ) × Below g ws p i j q s e × (x ≡ entry q s e)

module _ {g : Grammar} {ws : List ℕ} where
  next : {i p q s : ℕ} {f f₀ : Forest} {u : Tree} → Placed g ws (node q f₀) i p f → ChildIn i f₀ u s → Next g ws i p f u s
  next {i} {p} {q} {s} {f} {f₀} {u} at h =
      let fs = (same_node q p f₀ f at.is).1 in
      let h' : ChildIn (length at.pre) f u s = subst (λ x. ChildIn x f u s) (sym at.behind) (subst (λ z. ChildIn i z u s) fs h) in
      let r = child_found at.covers at.known ws at.pre at.stands.0 at.stands.1 (end_of (length at.pre) f)
      ([], rest_end refl refl) u s h' in (
        r.0,
        r.1,
        record { is = r.3; known = r.4; covers = r.5; pre = r.2; behind = r.6; stands = r.7 },
        subst (λ x. Child g ws p x (end_of x f) r.0 s (end_of s r.1)) at.behind r.8,
      )

  head_is : {i p : ℕ} {t : Tree} {xs : List Record} {f : Forest} → Path i t xs → Placed g ws t i p f → record_at xs 0 ≡ entry p i (end_of i f)
  head_is {p = p} {f = f} (path_root {i = i} {q = q} {f = f₀}) at = let e = same_node q p f₀ f at.is in rw (e.0, e.1) refl
  head_is {p = p} {f = f} (path_down {i = i} {q = q} {f = f₀} h more) at = let e = same_node q p f₀ f at.is in rw (e.0, e.1) refl

  beneath_more : {p i j q s e : ℕ} {x : Record} → Child g ws p i j q s e → Beneath g ws q s e x → Beneath g ws p i j x
  beneath_more c r = (r.0, r.1, r.2, below_more c r.3, r.4)

  later :
      {i p : ℕ} {t : Tree} {xs : List Record} {f : Forest} →
      Path i t xs →
      Placed g ws t i p f →
      (b : ℕ) →
      suc b < length xs →
      Beneath g ws p i (end_of i f) (record_at xs (suc b))
  later path_root at b l = absurd (omega arith)
  later {p = p} (path_down {i = i} {s = s} h more) at zero l =
      let n = next at h in (n.0, s, end_of s n.1, below_child n.3, head_is more n.2)
  later (path_down h more) at (suc b) l = let n = next at h in beneath_more n.3 (later more n.2 b (omega arith))

  never_alike :
      {p i j q s e : ℕ} →
      Acyclic g.productions →
      Below g ws p i j q s e →
      (x y : Record) →
      x ≡ entry p i j →
      y ≡ entry q s e →
      ¬ Alike g x y
  never_alike {p} {i} {j} {q} {s} {e} acyclic b x y ex ey same =
      let l : left_of g p ≡ left_of g q =
      ap (left_of g) (let z = ap (λ (r : Record). r.production) ex in let w : p ≡ x.production - 1 = omega arith in w)
      ∙ same.0
      ∙ ap (left_of g) (let z = ap (λ (r : Record). r.production) ey in let w : y.production - 1 ≡ q = omega arith in w) in
      let starts : s ≡ i = sym (ap (λ (r : Record). r.start) ey) ∙ sym same.1 ∙ ap (λ (r : Record). r.start) ex in
      let ends : e ≡ j = sym (ap (λ (r : Record). r.end) ey) ∙ sym same.2 ∙ ap (λ (r : Record). r.end) ex in
      acyclic (left_of g p) (subst (LeadsOn g.productions (left_of g p)) (sym l) (below_leads b starts ends))

  apart :
      {i : ℕ} {t : Tree} {xs : List Record} →
      Path i t xs →
      {p : ℕ} {f : Forest} →
      Placed g ws t i p f →
      Acyclic g.productions →
      (a b : ℕ) →
      a < b →
      b < length xs →
      ¬ Alike g (record_at xs a) (record_at xs b)
  apart path_root at acyclic a b l m same = absurd (omega arith)
  apart (path_down h more) at acyclic a zero l m same = absurd (omega arith)
  apart (path_down h more) at acyclic zero (suc b) l m same =
      let r = later (path_down h more) at b m in never_alike acyclic r.3 _ _ (head_is (path_down h more) at) r.4 same
  apart (path_down h more) at acyclic (suc a) (suc b) l m same = let n = next at h in apart more n.2 acyclic a b (omega arith) (omega arith) same

  -- a path is no longer than the measure of its root
  short :
      (r : ℕ → ℕ) →
      Ranked g r →
      ((A : ℕ) → r A < 16) →
      {i p : ℕ} {t : Tree} {xs : List Record} {f : Forest} →
      Path i t xs →
      Placed g ws t i p f →
      length xs ≤ (end_of i f - i) * 16 + r (left_of g p) + 1
  short r ranked small path_root at = omega arith
  short r ranked small (path_down h more) at =
      let n = next at h in
      let k = short r ranked small more n.2 in
      let c = child_falls r 16 ranked small n.3 in
      omega arith

placed : {g : Grammar} {ws : List ℕ} {t : Tree} {p : ℕ} → Free g p t → words t ≡ ws → (f : Forest) × Placed g ws t 0 p f × (words_of f ≡ ws)
placed (free_node {f = f} known c) e =
    (f, record { is = refl; known = known; covers = c; pre = []; behind = refl; stands = ([], sym e ∙ sym (append-nil (words_of f))) }, e)

pub short_paths : ShortPaths
short_paths g formed ws t parse xs path =
    let r = placed parse.0.is_free parse.1 in
    let n : length (words_of r.0) ≡ length ws = ap length r.2 in
    record {
      apart = apart path r.1 formed.acyclic;
      short = elim (dec_lt (16 * (length ws + 1)) (length xs)) [
        | no l ↦ omega arith
        | yes l ↦
            absurd (not_undecided_all g (λ d.
            let k = short (rank g formed d) (ranked g formed d) (rank_small g formed d) path r.1 in
            let o = rank_small g formed d (left_of g parse.0.top) in
            omega arith))
      ];
    }
