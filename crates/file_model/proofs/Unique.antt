-- Every text has at most one reading.
use Rattle.std.proofs.Common.{◌≡◌, ℕ, suc, ◌+◌, ◌<◌, List, [], ◌∷◌, length, Err, Result, sym, refl, ap, ◌∙◌, subst, inl, inr, arith}
use Rattle.grammar.specs.declared.refusals.Refusal.{Refusal}
use Rattle.grammar.specs.declared.refusals.Refusal.TheVariants.{Draft, File}
use Rattle.grammar.specs.Grammar.{Grammar}
use Rattle.draft.specs.Calls.{AddsProduction}
use Rattle.syntax.specs.Syntax.{Spelling, Symbol, nonterminal, spelled, Line, word_line, production_line, rule_line, start_line}
use Rattle.syntax.proofs.Lines.{render_injective}
use Rattle.file_model.specs.declared.fault.Fault.{Fault}
use Rattle.file_model.specs.Spelled.{Spelled, First, StandsFor, RightSide, Undeclared as SomeUndeclared}
use Rattle.file_model.specs.Files.{fault, outcome, Does, ReadsLine, of_form, of_no_form, LineOf, ReadsFrom, reads_end, reads_cut, reads_on, reads_fault, started, too_long, no_mark, no_start, from_start, UniqueReadings}
use Rattle.file_model.proofs.Lines.{line_once, start_once, line_fed, line_some}
use Rattle.file_model.proofs.Once.{draft_told, file_told, answer_once}

-- ---- what is written stands for one right side

module _ (ws : List Spelling) where
  first_once : (w : Spelling) (j k : ℕ) → First ws w j → First ws w k → j ≡ k
  first_once w j k a b =
      let m : ¬ (j < k) = λ l. b.new j l a.is in
      let n : ¬ (k < j) = λ l. a.new k l b.is in
      omega arith

  stands_once : (s : Symbol) (x y : ℕ) → StandsFor ws s x → StandsFor ws s y → x ≡ y
  stands_once (nonterminal s) x y a b = a ∙ sym b
  stands_once (spelled w) x y a b = a.2 ∙ ap (λ k. 16 + k) (first_once w a.0 b.0 a.1 b.1) ∙ sym b.2

  right_once : (ss : List Symbol) (xs ys : List ℕ) → RightSide ws ss xs → RightSide ws ss ys → xs ≡ ys
  right_once [] xs ys a b = a ∙ sym b
  right_once (s ∷ ss) xs ys a b =
      let h = stands_once s a.0 b.0 a.2 b.2 in
      let t = right_once ss a.1 b.1 a.3 b.3 in
      cc (a.4, b.4)

  -- then each of its spellings is declared
  right_known : (ss : List Symbol) (xs : List ℕ) → RightSide ws ss xs → ¬ SomeUndeclared ws ss
  right_known [] xs a u = u
  right_known (nonterminal s ∷ ss) xs a u = elim u [ inl n ↦ n | inr t ↦ right_known ss a.1 a.3 t ]
  right_known (spelled w ∷ ss) xs a u = elim u [ inl n ↦ n (a.2.0, a.2.1) | inr t ↦ right_known ss a.1 a.3 t ]

-- ---- what a line does

spelled_once : (t t' : Spelled) → t.draft ≡ t'.draft → t.spellings ≡ t'.spellings → t ≡ t'
spelled_once t t' a b =
    ap (λ (d : Grammar). record { draft = d; spellings = t.spellings }) a ∙ ap (λ (ws : List Spelling). record { draft = t'.draft; spellings = ws }) b

module _ (s : Spelled) where
  does_once : (f : Line) (r r' : Result (Unit {0}) Refusal) (t t' : Spelled) → Does s f r t → Does s f r' t' → (r ≡ r') × (t ≡ t')
  does_once (word_line w) r r' t t' a b =
      let e = answer_once File file_told _ (λ _. 16 + length s.spellings) _ _ a.0 b.0 t.spellings t'.spellings a.1 b.1 in
      (a.3 ∙ ap (outcome File) e.0 ∙ sym b.3, spelled_once t t' (a.2 ∙ sym b.2) e.1)
  does_once (production_line left symbols price) r r' t t' (inl a) (inl b) = (a.1 ∙ sym b.1, a.2 ∙ sym b.2)
  does_once (production_line left symbols price) r r' t t' (inl a) (inr b) = absurd (right_known s.spellings symbols b.0 b.2 a.0)
  does_once (production_line left symbols price) r r' t t' (inr a) (inl b) = absurd (right_known s.spellings symbols a.0 a.2 b.0)
  does_once (production_line left symbols price) r r' t t' (inr a) (inr b) =
      let same = right_once s.spellings symbols b.0 a.0 b.2 a.2 in
      let adds = subst (λ right. AddsProduction s.draft (record { left = left; right = right; price = price }) b.1 t'.draft) same b.3 in
      let e = answer_once Draft draft_told _ (λ (g : Grammar). length g.productions) _ _ a.1 b.1 t.draft t'.draft a.3 adds in
      (a.5 ∙ ap (outcome Draft) e.0 ∙ sym b.5, spelled_once t t' e.1 (a.4 ∙ sym b.4))
  does_once (rule_line upper relation lower) r r' t t' a b =
      let e = answer_once Draft draft_told _ (λ (g : Grammar). length g.rules) _ _ a.0 b.0 t.draft t'.draft a.1 b.1 in
      (a.3 ∙ ap (outcome Draft) e.0 ∙ sym b.3, spelled_once t t' e.1 (a.2 ∙ sym b.2))

-- ---- a text

reads_line_once :
    {s t t' : Spelled} {line : List ℕ} {r r' : Result (Unit {0}) Refusal} → ReadsLine s line r t → ReadsLine s line r' t' → (r ≡ r') × (t ≡ t')
reads_line_once {s} {t} {t'} {line} {r} {r'} (of_form f has a) (of_form g has' b) =
    let same = render_injective g f has'.0 has.0 (sym has'.1 ∙ has.1) in
    does_once s f r r' t t' a (subst (λ h. Does s h r' t') same b)
reads_line_once (of_form f has a) (of_no_form none e h) = absurd (none f has)
reads_line_once (of_no_form none e h) (of_form f has a) = absurd (none f has)
reads_line_once (of_no_form none e h) (of_no_form none' e' h') = (e ∙ sym e', h ∙ sym h')

-- the first lines of the same text do the same
first_line_once :
    {s t t' : Spelled} {text l m rest rest' : List ℕ} {r r' : Result (Unit {0}) Refusal} →
    LineOf text l rest →
    LineOf text m rest' →
    ReadsLine s l r t →
    ReadsLine s m r' t' →
    (rest ≡ rest') × (r ≡ r') × (t ≡ t')
first_line_once {s} {t} {t'} {r' = r'} h h' a b =
    let e = line_once h h' in
    let same = reads_line_once a (subst (λ l. ReadsLine s l r' t') (sym e.0) b) in
    (e.1, same.0, same.1)

reads_from_once : {n : ℕ} {s t t' : Spelled} {text : List ℕ} {r r' : Result ℕ Fault} → ReadsFrom n s text r t → ReadsFrom n s text r' t' → (r ≡ r') × (t ≡ t')
reads_from_once reads_end reads_end = (refl, refl)
reads_from_once reads_end (reads_cut some f) = absurd (some refl)
reads_from_once reads_end (reads_on h a b) = absurd (line_some h refl)
reads_from_once reads_end (reads_fault h a) = absurd (line_some h refl)
reads_from_once (reads_cut some f) reads_end = absurd (some refl)
reads_from_once (reads_cut some f) (reads_cut some' f') = (refl, refl)
reads_from_once (reads_cut some f) (reads_on h a b) = absurd (line_fed h f)
reads_from_once (reads_cut some f) (reads_fault h a) = absurd (line_fed h f)
reads_from_once (reads_on h a b) reads_end = absurd (line_some h refl)
reads_from_once (reads_on h a b) (reads_cut some f) = absurd (line_fed h f)
reads_from_once {n = n} {t' = t'} {r' = r'} (reads_on {t = u} {rest = rest} h a b) (reads_on {t = u'} h' a' b') =
    let e = first_line_once h h' a a' in
    reads_from_once b (subst (λ x. ReadsFrom (suc n) x rest r' t') (sym e.2) (subst (λ x. ReadsFrom (suc n) u' x r' t') (sym e.0) b'))
reads_from_once (reads_on h a b) (reads_fault h' a') = let e = (first_line_once h h' a a').1 in let z : ◌≡◌ {A = ℕ} 0 1 = cc in absurd (omega arith)
reads_from_once (reads_fault h a) reads_end = absurd (line_some h refl)
reads_from_once (reads_fault h a) (reads_cut some f) = absurd (line_fed h f)
reads_from_once (reads_fault h a) (reads_on h' a' b') = let e = (first_line_once h h' a a').1 in let z : ◌≡◌ {A = ℕ} 0 1 = cc in absurd (omega arith)
reads_from_once {n = n} (reads_fault {e = x} h a) (reads_fault {e = y} h' a') =
    let e = first_line_once h h' a a' in
    let same : x ≡ y = cc e.1 in
    (ap (λ z. Err (fault z n)) same, e.2)

pub reads_once : UniqueReadings
reads_once text r r' t t' (too_long l) (too_long l') = (refl, refl)
reads_once text r r' t t' (too_long l) (no_mark l' none) = absurd (omega arith)
reads_once text r r' t t' (too_long l) (no_start l' m none) = absurd (omega arith)
reads_once text r r' t t' (too_long l) (from_start l' m low h b) = absurd (omega arith)
reads_once text r r' t t' (no_mark l none) (too_long l') = absurd (omega arith)
reads_once text r r' t t' (no_mark l none) (no_mark l' none') = (refl, refl)
reads_once text r r' t t' (no_mark l none) (no_start {rest = rest} l' m none') = absurd (none rest m)
reads_once text r r' t t' (no_mark l none) (from_start {rest = rest} l' m low h b) = absurd (none rest m)
reads_once text r r' t t' (no_start l m none) (too_long l') = absurd (omega arith)
reads_once text r r' t t' (no_start {rest = rest} l m none) (no_mark l' none') = absurd (none' rest m)
reads_once text r r' t t' (no_start l m none) (no_start l' m' none') = (refl, refl)
reads_once text r r' t t' (no_start l m none) (from_start {body = body} {symbol = x} l' m' low h b) =
    absurd (none x body low (subst (λ y. LineOf y (start_line x) body) (line_once m' m).1 h))
reads_once text r r' t t' (from_start l m low h b) (too_long l') = absurd (omega arith)
reads_once text r r' t t' (from_start {rest = rest} l m low h b) (no_mark l' none') = absurd (none' rest m)
reads_once text r r' t t' (from_start {body = body} {symbol = x} l m low h b) (no_start l' m' none') =
    absurd (none' x body low (subst (λ y. LineOf y (start_line x) body) (line_once m m').1 h))
reads_once text r r' t t' (from_start {rest = rest} {body = body} {symbol = x} l m low h b) (from_start {body = body'} {symbol = y} l' m' low' h' b') =
    let e = start_once h (subst (λ z. LineOf z (start_line y) body') (line_once m' m).1 h') in
    reads_from_once b (subst (λ z. ReadsFrom 3 (started z) body r' t') (sym e.0) (subst (λ z. ReadsFrom 3 (started y) z r' t') (sym e.1) b'))
