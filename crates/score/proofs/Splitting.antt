-- The sum over the splits that the code adds up is the sum over all ways.
use Rattle.std.proofs.Common.{◌≡◌, ℕ, suc, ◌+◌, ◌-◌, ◌*◌, ◌/◌, ◌%◌, ◌<◌, ◌≤◌, ◌⊎◌, List, length, get_or, sym, ap, ◌∙◌, subst, inl, inr, ⊎_elim, arith}
use Rattle.std.proofs.lemmas.Bool.{cases_eq, cases_lt}
use Rattle.grammar.specs.Grammar.{Rule, Nonterminal, At, size_of, right_at, production_at}
use Rattle.grammar.specs.Trees.{Forest}
use Rattle.bitset.specs.Bits.{bit}
use Rattle.tables.specs.Meaning.{Waits}
use Rattle.scales.specs.Scales.{Scale, SemiringLaws}
use Rattle.score_theory.specs.Scores.{Way}
use Rattle.score_theory.specs.Weights.{Choice, Split, sum_below}
use Rattle.score_theory.proofs.Empties.{empty_before, empty_tree}
use Rattle.score.specs.Inputs.{productions_in, words_in, grammar_in, Inside, place_in, WaitsIn, level_in, stage_in, Given}
use Rattle.score.specs.Filling.{held, whole_of, Terms, Right}
use Rattle.score.specs.declared.input.Input.{Input}
use Rattle.score.proofs.Levels.{level_small, level_same, level_falls}
use Rattle.score.proofs.Products.{pick, pick_yes, pick_no, product_right}

module _ {S : Type 0} (s : Scale S) (laws : SemiringLaws s) (x : Input) (start : ℕ) (rs : List Rule) (W : ℕ → ℕ → ℕ → ℕ → S)
    (given : Given s x start rs W) where
  -- the tables' waiting places are the choices
  pub waits_choice :
      (p k q : ℕ) → p < length (productions_in x) → k ≤ length (right_at (productions_in x) p) → q < length (productions_in x) →
      WaitsIn x p k q → Choice (grammar_in x start rs) p k q
  waits_choice p k q kp lk kq w =
      let e = ap (λ f. f + k) (x.firsts p kp) in
      let h = (given.means.waits p k q kp lk kq).0 (subst (λ d. Waits x.tables.now q d) (sym e) w) in
      (kq, h.0, h.1, h.2)

  pub choice_waits :
      (p k q : ℕ) → p < length (productions_in x) → k ≤ length (right_at (productions_in x) p) →
      Choice (grammar_in x start rs) p k q → WaitsIn x p k q
  choice_waits p k q kp lk ch =
      let e = ap (λ f. f + k) (x.firsts p kp) in
      subst (λ d. Waits x.tables.now q d) e ((given.means.waits p k q kp lk ch.0).1 (ch.1, ch.2, ch.3))

  -- whether a production may stand there
  choice? :
      (p k q : ℕ) → p < length (productions_in x) → k ≤ length (right_at (productions_in x) p) →
      Choice (grammar_in x start rs) p k q ⊎ (¬ Choice (grammar_in x start rs) p k q)
  choice? p k q kp lk =
      let d = place_in x p k in
      ⊎_elim
      (λ (kq : q < length (productions_in x)).
      ⊎_elim (λ (w : WaitsIn x p k q). inl (waits_choice p k q kp lk kq w))
      (λ (w : ¬ WaitsIn x p k q). inr (λ ch. w (choice_waits p k q kp lk ch)))
      (cases_eq (bit (get_or x.tables.now.waits (2 * q + d / 64) 0) (d % 64)) 1))
      (λ (h : length (productions_in x) ≤ q). inr (λ ch. let kq = ch.0 in omega arith))
      (cases_lt q (length (productions_in x)))

  module _ (p k i j : ℕ) (kp : p < length (productions_in x)) (lk : k < length (right_at (productions_in x) p)) (lij : i ≤ j)
      (lj : j ≤ length (words_in x)) (table : List S) (right : Right s x W table (stage_in x p (suc k) i j)) where
    here : (m : ℕ) → m ≤ j → Inside x p k i m
    here m l = (kp, omega arith, omega arith, omega arith)

    there : (m q : ℕ) → m ≤ j → q < length (productions_in x) → Inside x q (length (right_at (productions_in x) q)) m j
    there m q l kq = (kq, omega arith, omega arith, lj)

    small : (q l : ℕ) → level_in x q l ≤ 17
    small = level_small x start rs given.means

    -- the entries of the two parts come before that of the whole, where both have ways
    first_before :
        (m q : ℕ) → i ≤ m → m ≤ j → Choice (grammar_in x start rs) p k q →
        (h : Forest) → Way (grammar_in x start rs) (words_in x) q (size_of (grammar_in x start rs) q) m j h →
        stage_in x p k i m < stage_in x p (suc k) i j
    first_before m q lo hi ch h way =
        let a = small p k in
        let b = small p (suc k) in
        ⊎_elim
        (λ (e : m ≡ j).
        let null = empty_tree (grammar_in x start rs) (words_in x) q j h ch.0
        (subst (λ z. Way (grammar_in x start rs) (words_in x) q (size_of (grammar_in x start rs) q) z j h) e way) in
        let same = level_same x start rs given.means p k _ kp ch.1 null in
        omega arith)
        (λ (n : ¬ (m ≡ j)). omega (arith, n))
        (cases_eq m j)

    second_before :
        (m q : ℕ) → i ≤ m → m ≤ j → Choice (grammar_in x start rs) p k q →
        (f : Forest) → Way (grammar_in x start rs) (words_in x) p k i m f →
        stage_in x q (length (right_at (productions_in x) q)) m j < stage_in x p (suc k) i j
    second_before m q lo hi ch f way =
        let a = small q (length (right_at (productions_in x) q)) in
        let short = (given.formed.sides q ch.0).1 in
        let kq = ch.0 in
        let few = x.few in
        let fw = x.few_words in
        ⊎_elim
        (λ (e : i ≡ m).
        let empty = empty_before (grammar_in x start rs) (words_in x) p k i f
        (subst (λ z. Way (grammar_in x start rs) (words_in x) p k i z f) (sym e) way) in
        let falls = level_falls x start rs given.means p k q kp ch.0 ch.1 ch.2 empty in
        omega arith)
        (λ (n : ¬ (i ≡ m)). omega (arith, n))
        (cases_eq i m)

    abbrev HasWay : ℕ → ℕ → ℕ → ℕ → Type 0
    HasWay q l m n = (f : Forest) × Way (grammar_in x start rs) (words_in x) q l m n f

    way? : (q l m n : ℕ) → HasWay q l m n ⊎ (W q l m n ≡ s.none)
    way? q l m n =
        ⊎_elim (λ (h : HasWay q l m n). inl h)
        (λ (h : (f : Forest) → ¬ Way (grammar_in x start rs) (words_in x) q l m n f). inr (given.weights.no_way q l m n h))
        (given.weights.decided q l m n)

    -- the product that is added is the right one
    agrees :
        (m q : ℕ) → i ≤ m → m ≤ j → Choice (grammar_in x start rs) p k q →
        s.times (held s x table p k i m) (whole_of s x table q m j)
        ≡ s.times (W p k i m) (s.times (s.value (production_at (productions_in x) q).price) (W q (size_of (grammar_in x start rs) q) m j))
    agrees m q lo hi ch =
        let l = length (right_at (productions_in x) q) in
        product_right s laws (HasWay p k i m) (HasWay q l m j) _ _ _ _ _ (way? p k i m) (way? q l m j)
        (right.part p k i m (here m hi)) (right.part q l m j (there m q hi ch.0))
        (λ a b. (
          right.done p k i m (here m hi) lo (first_before m q lo hi ch b.0 b.1),
          right.done q l m j (there m q hi ch.0) hi (second_before m q lo hi ch a.0 a.1),
        ))

    abbrev part : ℕ → ℕ → S
    part m q =
        pick (choice? p k q kp (omega arith))
        (s.times (W p k i m) (s.times (s.value (production_at (productions_in x) q).price) (W q (size_of (grammar_in x start rs) q) m j)))
        s.none

    terms : (m : ℕ) → i ≤ m → m ≤ j → Terms s x table p k i m j (part m)
    terms m lo hi q kq = record {
      may = λ w.
          let ch = waits_choice p k q kp (omega arith) kq w in
          pick_yes (choice? p k q kp (omega arith)) _ _ ch ∙ sym (agrees m q lo hi ch);
      not = λ w. pick_no (choice? p k q kp (omega arith)) _ _ (λ ch. w (choice_waits p k q kp (omega arith) ch));
    }

    whole : Split s (grammar_in x start rs) W p k i j part
    whole = record {
      may = λ m q lo hi ch. pick_yes (choice? p k q kp (omega arith)) _ _ ch;
      not = λ m q lo hi ch. pick_no (choice? p k q kp (omega arith)) _ _ ch;
    }

    -- what the code adds up over all splits
    pub splits_right :
        (B : ℕ) → At (right_at (productions_in x) p) k B → Nonterminal B → (v : S) →
        ((f : ℕ → ℕ → S) → ((m : ℕ) → i ≤ m → m ≤ j → Terms s x table p k i m j (f m)) →
        v ≡ sum_below s (suc (j - i)) (λ d. sum_below s (length (productions_in x)) (λ q. f (i + d) q))) →
        v ≡ W p (suc k) i j
    splits_right B at low v told = told part terms ∙ sym (given.weights.nonterminal p k i j B at low lij lj part whole)
