-- A draft with one production or one rule more. Assumes nothing.
use Rattle.std.proofs.Common.{◌≡◌, ℕ, ◌+◌, ◌-◌, ◌<◌, ◌≤◌, List, [], ◌∷◌, ◌++◌, length, take, sym, ap, ◌∙◌, subst, inl, arith}
use Rattle.std.proofs.lemmas.List.{get_or_append_left, get_or_push, length-map, length_push, map_push, take_at}
use native.Mathlib.Decide.{dec_lt}
use Rattle.grammar.specs.declared.production.Production.{Production as Stored}
use Rattle.grammar.specs.declared.rule.Rule.{Rule as Numbered}
use Rattle.grammar.specs.Grammar.{Production, Rule, Nonterminal, with_production, with_rule}
use Rattle.grammar.specs.Model.{production, productions, rule, rules}
use Rattle.grammar.specs.Sound.{WellFormed}
use Rattle.derivations.specs.Ranges.{Lefts, Numbers as NumbersBetween}
use Rattle.draft.specs.declared.draft.Draft.{Draft}
use Rattle.draft.specs.Calls.{OutOfRange, Names}
use Rattle.draft.specs.Stored.{grammar, Numbers}
use Rattle.draft.specs.Model.{model}
use Rattle.draft.proofs.Growing.{each_more}

-- the facts of a draft's type
pub well_formed : (d : Draft) → WellFormed (model d)
well_formed d =
    record {
      small = d.small;
      starts = let h = d.starts in omega arith;
      sides = d.sides;
      symbols = d.symbols;
      prices = d.prices;
      apart = d.apart;
      named = d.named;
      unrepeated = d.unrepeated;
      acyclic = d.acyclic;
      ordered = d.ordered;
    }

-- what is left when the new element is taken away again
pub taken_back : {X : Type 0} (xs : List X) (x : X) (more left : List X) → more ≡ xs ++ x ∷ [] → left ≡ take (length more - 1) more → left ≡ xs
taken_back xs x more left e f =
    f ∙ ap (λ ys. take (length ys - 1) ys) e ∙ take_at xs (x ∷ []) (length (xs ++ x ∷ []) - 1) (omega (arith, length_push xs x))

module _ (d : Draft) (p : Stored) (ps : List Stored) (e : ps ≡ d.productions.items ++ p ∷ []) where
  -- the productions with the new one
  pub longer : productions ps ≡ (model d).productions ++ production p ∷ []
  longer = ap productions e ∙ map_push production d.productions.items p

  pub grown : grammar d.start ps d.rules.items ≡ with_production (model d) (production p)
  grown = ap (λ (qs : List Production). record { start = d.start; productions = qs; rules = rules d.rules.items }) longer

  pub lefts : (¬ OutOfRange (production p)) → Lefts (productions ps)
  lefts range =
      let low : ¬ (15 < (production p).left) = λ h. range (inl h) in
      subst Lefts (sym longer) (each_more (model d).productions (production p) (λ (q : Production). Nonterminal q.left) (λ k h. (d.sides k h).0) (omega arith))

  -- the rules name productions still
  pub numbers_still : Numbers d.rules.items (length d.rules.items) (length ps)
  numbers_still k x h =
      let b = d.numbers k x h in
      let l : length ps ≡ length d.productions.items + 1 = ap length e ∙ length_push d.productions.items p in
      (b.0, omega (arith, b.1), b.2, omega (arith, b.3))

-- the stored numbers, with one rule more
numbers_more : (xs : List Numbered) (count : ℕ) (x : Numbered) → Numbers xs (length xs) count → Names count x.upper → Names count x.lower → Numbers (xs ++ x ∷ []) (length (xs ++ x ∷ [])) count
numbers_more xs count x old up low k e h =
    let Fit : Numbered → Type 0 = λ y. (0 < y.upper) × (y.upper ≤ count) × (0 < y.lower) × (y.lower ≤ count) in
    elim (dec_lt k (length xs)) [
      | yes l ↦ subst Fit (sym (get_or_append_left xs (x ∷ []) e k l)) (old k e l)
      | no l ↦ subst Fit (sym (get_or_push xs x e k (omega (arith, length_push xs x)))) (up.0, up.1, low.0, low.1)
    ]

module _ (d : Draft) (x : Numbered) (up : Names (length (model d).productions) x.upper) (low : Names (length (model d).productions) x.lower) (rs : List Numbered) (e : rs ≡ d.rules.items ++ x ∷ []) where
  pub longer_rules : rules rs ≡ (model d).rules ++ rule x ∷ []
  longer_rules = ap rules e ∙ map_push rule d.rules.items x

  pub grown_rules : grammar d.start d.productions.items rs ≡ with_rule (model d) (rule x)
  grown_rules = ap (λ (xs : List Rule). record { start = d.start; productions = productions d.productions.items; rules = xs }) longer_rules

  pub numbers_kept : Numbers rs (length rs) (length d.productions.items)
  numbers_kept =
      let n = length-map d.productions.items production in
      subst (λ (ys : List Numbered). Numbers ys (length ys) (length d.productions.items)) (sym e)
      (numbers_more d.rules.items (length d.productions.items) x d.numbers (up.0, omega (arith, n, up.1)) (low.0, omega (arith, n, low.1)))

  pub between : NumbersBetween rs
  between k y h =
      let m = numbers_kept k y h in
      let s : length d.productions.items ≤ 32 = omega (arith, d.small.0, length-map d.productions.items production) in
      (m.0, omega (arith, m.1), m.2, omega (arith, m.3))
