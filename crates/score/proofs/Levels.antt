-- The order of the entries: what an entry is made of comes before it, where it has ways.
use Rattle.std.proofs.Common.{◌≡◌, ℕ, suc, ◌<◌, ◌≤◌, ltb, List, length, get_or, sym, ◌∙◌, subst, ⊎_elim, arith}
use Rattle.std.proofs.lemmas.Bool.{cases_eq, cases_lt, cond-true, cond-false, lt-ltb, le-ltb}
use mathlib.Core.Logic.{∥∥₁_elim}
use native.Mathlib.Bridge.{le_prop}
use Rattle.grammar.specs.Grammar.{Rule, Nonterminal, At, left_at, right_at}
use Rattle.grammar.specs.Derivations.{Nullable}
use Rattle.tables.specs.Meaning.{Means}
use Rattle.score_theory.proofs.Empties.{same_symbol, leads_at}
use Rattle.score.specs.Inputs.{productions_in, grammar_in, level_in}
use Rattle.score.specs.declared.input.Input.{Input}

module _ (x : Input) where
  abbrev tail_of : ℕ → ℕ
  tail_of p = get_or x.tails p 0

  abbrev rank_of : ℕ → ℕ
  rank_of A = get_or x.tables.now.ranks A 0

  behind : (p k : ℕ) → tail_of p ≤ k → level_in x p k ≡ rank_of (left_at (productions_in x) p)
  behind p k h = cond-false (ltb k (tail_of p)) _ _ (le-ltb k (tail_of p) h)

  before : (p k : ℕ) → k < tail_of p → level_in x p k ≡ 17
  before p k h = cond-true (ltb k (tail_of p)) _ _ (lt-ltb k (tail_of p) h)

  module _ (start : ℕ) (rs : List Rule) (means : Means x.tables.now (grammar_in x start rs)) where
    pub level_small : (p k : ℕ) → level_in x p k ≤ 17
    level_small p k =
        ⊎_elim (λ (h : k < tail_of p). let e = before p k h in omega arith)
        (λ (h : tail_of p ≤ k). let e = behind p k h in let r = means.ranks_small (left_at (productions_in x) p) in omega arith)
        (cases_lt k (tail_of p))

    full : (q : ℕ) → q < length (productions_in x) → level_in x q (length (right_at (productions_in x) q)) ≡ rank_of (left_at (productions_in x) q)
    full q kq = behind q (length (right_at (productions_in x) q)) (∥∥₁_elim x.ends le_prop (λ tails. (tails q kq).within))

    -- a symbol that may be empty does not change the level
    pub level_same :
        (p k y : ℕ) → p < length (productions_in x) → At (right_at (productions_in x) p) k y → Nullable (productions_in x) y →
        level_in x p k ≡ level_in x p (suc k)
    level_same p k y kp at null =
        ⊎_elim (λ (h : suc k < tail_of p). before p k (omega arith) ∙ sym (before p (suc k) h))
        (λ (h : tail_of p ≤ suc k).
        let l : tail_of p ≤ k =
        ∥∥₁_elim x.ends le_prop
        (λ tails.
        (tails p kp).least k
        (λ m z low there.
        ⊎_elim (λ (e : m ≡ k). subst (Nullable (productions_in x)) (sym (same_symbol (right_at (productions_in x) p) k m y z (sym e) at there)) null)
        (λ (n : ¬ (m ≡ k)). (tails p kp).behind m z (omega (arith, n)) there)
        (cases_eq m k))) in
        behind p k l ∙ sym (behind p (suc k) h))
        (cases_lt (suc k) (tail_of p))

    -- a complete production comes before what it is put into, where nothing stands before it
    pub level_falls :
        (p k q : ℕ) → p < length (productions_in x) → q < length (productions_in x) →
        At (right_at (productions_in x) p) k (left_at (productions_in x) q) → Nonterminal (left_at (productions_in x) q) →
        ((m y : ℕ) → m < k → At (right_at (productions_in x) p) m y → Nullable (productions_in x) y) →
        level_in x q (length (right_at (productions_in x) q)) < level_in x p (suc k)
    level_falls p k q kp kq at low empty =
        let f = full q kq in
        let r = means.ranks_small (left_at (productions_in x) q) in
        ⊎_elim (λ (h : suc k < tail_of p). let e = before p (suc k) h in omega arith)
        (λ (h : tail_of p ≤ suc k).
        let e = behind p (suc k) h in
        let l : rank_of (left_at (productions_in x) q) < rank_of (left_at (productions_in x) p) =
        ∥∥₁_elim x.ends le_prop
        (λ tails.
        means.ranks (left_at (productions_in x) p) (left_at (productions_in x) q)
        (leads_at (grammar_in x start rs) p k (left_at (productions_in x) q) kp at low empty
        (λ m y after there. (tails p kp).behind m y (omega arith) there))) in
        omega arith)
        (cases_lt (suc k) (tail_of p))
