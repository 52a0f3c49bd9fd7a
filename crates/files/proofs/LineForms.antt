-- Which form a line has, by its first bytes. Assumes nothing.
use Rattle.std.proofs.Common.{◌≡◌, ℕ, ◌+◌, ◌<◌, ◌≤◌, List, [], ◌∷◌, ◌++◌, length, get_or, decimal, Result, sym, ap, ◌∙◌, arith}
use Rattle.std.proofs.lemmas.Str.Parse.{digit_at}
use Rattle.grammar.specs.declared.refusals.Refusal.{Refusal}
use Rattle.syntax.specs.Syntax.{Spelling, ValidSpelling, Line, word_line, production_line, rule_line, HasForm, spelling_text, spaced, right_parts}
use Rattle.syntax.proofs.Lines.{render_word, render_production, render_rule}
use Rattle.syntax.proofs.Numbers.{decimal_shape}
use Rattle.file_model.specs.Spelled.{Spelled}
use Rattle.file_model.specs.Files.{ReadsLine, of_form, of_no_form}
use Rattle.files.specs.Reading.{IsWord, IsProduction, IsRule, ReadsAs, as_form, as_none}

same_tail : (x y : List ℕ) → 119 ∷ 111 ∷ 114 ∷ 100 ∷ 32 ∷ x ≡ 119 ∷ 111 ∷ 114 ∷ 100 ∷ 32 ∷ y → x ≡ y
same_tail x y e = cc

same_head : (a b : ℕ) (x y : List ℕ) → a ∷ x ≡ b ∷ y → a ≡ b
same_head a b x y e = cc

-- the spelling of a word line
pub word_part : (part : List ℕ) (f : Line) → IsWord f → HasForm (119 ∷ 111 ∷ 114 ∷ 100 ∷ 32 ∷ part) f → (w : Spelling) × ValidSpelling w × (part ≡ spelling_text w)
word_part part (word_line w) s h = (w, h.0, same_tail part (spelling_text w) (h.1 ∙ render_word w))
word_part part (production_line left ss price) s h = absurd s
word_part part (rule_line upper r lower) s h = absurd s

-- a rule line begins with a digit
rule_begins : (upper : ℕ) (x line : List ℕ) → upper ≤ 65535 → line ≡ decimal upper ++ x → (48 ≤ get_or line 0 0) × (get_or line 0 0 ≤ 57)
rule_begins upper x line h e =
    let d = decimal_shape upper h in
    first (decimal upper) (digit_at (decimal upper) 0 d.digits d.some) d.some e
  where
    first : (ds : List ℕ) → (48 ≤ get_or ds 0 0) × (get_or ds 0 0 ≤ 57) → 0 < length ds → line ≡ ds ++ x → (48 ≤ get_or line 0 0) × (get_or line 0 0 ≤ 57)
    first [] i l p = absurd (omega arith)
    first (b ∷ ds) i l p = let z = ap (λ (s : List ℕ). get_or s 0 0) p in (omega (arith, i.0), omega (arith, i.1))

module _ (s : Spelled) (line : List ℕ) (r : Result (Unit {0}) Refusal) (t : Spelled) where
  -- what a line does where the forms of one sort are the only ones that it can have
  pub of_sort : (Sort : Line → Type 0) → ((f : Line) → HasForm line f → Sort f) → ReadsAs Sort s line r t → ReadsLine s line r t
  of_sort Sort only (as_form f k h d) = of_form f h d
  of_sort Sort only (as_none none e u) = of_no_form (λ f h. none f (only f h) h) e u

-- a line that begins so can only be a word line
pub only_word : (part line : List ℕ) → line ≡ 119 ∷ 111 ∷ 114 ∷ 100 ∷ 32 ∷ part → (f : Line) → HasForm line f → IsWord f
only_word part line e (word_line w) h = tt
only_word part line e (production_line left ss price) h =
    let l = h.0.0 in
    let z : 119 ≡ 65 + left = same_head 119 (65 + left) _ _ (sym e ∙ h.1 ∙ render_production left ss price) in
    omega arith
only_word part line e (rule_line upper r lower) h =
    let b = rule_begins upper _ line h.0.0 (h.1 ∙ render_rule upper r lower) in
    let z = ap (λ (x : List ℕ). get_or x 0 0) e in
    omega (arith, b.1)

-- or a production line
pub only_production : (left : ℕ) (rest line : List ℕ) → left < 16 → line ≡ (65 + left) ∷ 32 ∷ 61 ∷ 32 ∷ rest → (f : Line) → HasForm line f → IsProduction f
only_production left rest line l e (word_line w) h =
    let z : 65 + left ≡ 119 = same_head (65 + left) 119 _ _ (sym e ∙ h.1 ∙ render_word w) in
    omega arith
only_production left rest line l e (production_line k ss price) h = tt
only_production left rest line l e (rule_line upper r lower) h =
    let b = rule_begins upper _ line h.0.0 (h.1 ∙ render_rule upper r lower) in
    let z = ap (λ (x : List ℕ). get_or x 0 0) e in
    omega (arith, b.1)

-- and one that begins as neither can only be a rule line
pub only_rule :
    (line : List ℕ) →
    ((part : List ℕ) → ¬ (line ≡ 119 ∷ 111 ∷ 114 ∷ 100 ∷ 32 ∷ part)) →
    ((left : ℕ) (rest : List ℕ) → left < 16 → ¬ (line ≡ (65 + left) ∷ 32 ∷ 61 ∷ 32 ∷ rest)) →
    (f : Line) →
    HasForm line f →
    IsRule f
only_rule line a b (word_line w) h = a (spelling_text w) (h.1 ∙ render_word w)
only_rule line a b (production_line left ss price) h = b left (spaced (right_parts ss price)) h.0.0 (h.1 ∙ render_production left ss price)
only_rule line a b (rule_line upper r lower) h = tt
