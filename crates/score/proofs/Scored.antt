-- The score from the filled table.
use Rattle.std.proofs.Common.{◌≡◌, ℕ, ◌<◌, List, length, sym, ap, ◌∙◌, subst, arith}
use Rattle.std.proofs.lemmas.Bool.{cases_eq}
use Rattle.grammar.specs.Grammar.{Production, Rule, Grammar, left_at, right_at, production_at}
use Rattle.grammar.specs.Sound.{WellFormed}
use Rattle.tables.specs.Meaning.{Means}
use Rattle.scales.specs.Scales.{Scale}
use Rattle.score_theory.specs.Scores.{Sums, Score}
use Rattle.score_theory.specs.Weights.{sum_below, Weights}
use Rattle.score.specs.declared.input.Input.{Input}
use Rattle.score.specs.Filled.{Filled}
use Rattle.score.specs.Inputs.{productions_in, words_in, grammar_in, Inside, Given}
use Rattle.score.specs.Filling.{whole_of, Root, AllRight}
use Rattle.score.proofs.Products.{pick, pick_yes, pick_no}

-- a grammar is its start symbol, its productions and its rules
same_grammar :
    (g : Grammar) (start : ℕ) (ps : List Production) → g.productions ≡ ps → g.start ≡ start →
    g ≡ record { start = start; productions = ps; rules = g.rules }
same_grammar g start ps e f =
    ap (λ (qs : List Production). record { start = g.start; productions = qs; rules = g.rules }) e
    ∙ ap (λ (z : ℕ). record { start = z; productions = ps; rules = g.rules }) f

module _ {S : Type 0} (s : Scale S) (x : Input) (before after : List S) (all : AllRight s x before after) (start : ℕ) (v : S)
    (told :
    (f : ℕ → S) → ((p : ℕ) → p < length (productions_in x) → Root s x after start p (f p)) →
    v ≡ sum_below s (length (productions_in x)) f) where
  module _ (rs : List Rule) (W : ℕ → ℕ → ℕ → ℕ → S) (given : Given s x start rs W) where
    abbrev value_of : ℕ → S
    value_of p = s.times (s.value (production_at (productions_in x) p).price) (W p (length (right_at (productions_in x) p)) 0 (length (words_in x)))

    abbrev root_of : ℕ → S
    root_of p = pick (cases_eq (left_at (productions_in x) p) start) (value_of p) s.none

    whole_right : (p : ℕ) → p < length (productions_in x) → whole_of s x after p 0 (length (words_in x)) ≡ value_of p
    whole_right p kp =
        let inside : Inside x p (length (right_at (productions_in x) p)) 0 (length (words_in x)) = (kp, omega arith, omega arith, omega arith) in
        ap (s.times (s.value (production_at (productions_in x) p).price))
        (all.right start rs W given p (length (right_at (productions_in x) p)) 0 (length (words_in x)) inside)

    roots_right : (p : ℕ) → p < length (productions_in x) → Root s x after start p (root_of p)
    roots_right p kp = record {
      starts = λ e. pick_yes (cases_eq (left_at (productions_in x) p) start) (value_of p) s.none e ∙ sym (whole_right p kp);
      other = λ n. pick_no (cases_eq (left_at (productions_in x) p) start) (value_of p) s.none n;
    }

    is_score : Score s (grammar_in x start rs) (words_in x) v
    is_score =
        subst (λ z. Score s (grammar_in x start rs) (words_in x) z) (sym (told root_of roots_right))
        (given.weights.whole root_of
        (λ p kp e. pick_yes (cases_eq (left_at (productions_in x) p) start) (value_of p) s.none e)
        (λ p kp n. pick_no (cases_eq (left_at (productions_in x) p) start) (value_of p) s.none n))

    is_filled : Filled s (grammar_in x start rs) (words_in x) before after
    is_filled = record {
      size = all.size;
      entries = λ p k i j kp lk li lj.
          subst (λ z. Sums s (grammar_in x start rs) (words_in x) p k i j z) (sym (all.right start rs W given p k i j (kp, lk, li, lj)))
          (given.weights.sums p k i j);
      later = all.later;
    }

  -- what is told of a grammar
  abbrev Told : Grammar → Type 0
  Told g =
      Means x.tables.now g → WellFormed g → (W : ℕ → ℕ → ℕ → ℕ → S) → Weights s g (words_in x) W →
      Score s g (words_in x) v × Filled s g (words_in x) before after

  -- the answer is the score, and the table is filled
  pub scored : (g : Grammar) → g.productions ≡ productions_in x → g.start ≡ start → Told g
  scored g e f =
      subst Told (sym (same_grammar g start (productions_in x) e f))
      (λ m w W h.
      let given : Given s x start g.rules W = record { means = m; formed = w; weights = h } in
      (is_score g.rules W given, is_filled g.rules W given))
