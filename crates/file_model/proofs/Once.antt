-- An answer is fixed by its causes and by what is done.
use Rattle.std.proofs.Common.{◌≡◌, ℕ, ◌-◌, ◌<◌, [], ◌∷◌, get_or, Ok, Err, Result, sym, refl, ap, ◌∙◌, arith}
use Rattle.grammar.specs.declared.refusals.DraftRefusal.{DraftRefusal}
use Rattle.grammar.specs.declared.refusals.DraftRefusal.TheVariants.{Symbol, LongRight, Full, Repeated, LeadsToItself, NoProduction, RulesFull, AboveItself}
use Rattle.grammar.specs.declared.refusals.FileRefusal.{FileRefusal}
use Rattle.grammar.specs.declared.refusals.FileRefusal.TheVariants.{Mark, Form, Declared, Undeclared, ShortText}
use Rattle.grammar.specs.declared.refusals.Refusal.{Refusal}
use Rattle.grammar.specs.declared.refusals.Refusal.TheVariants.{Draft, File}
use Rattle.grammar.specs.Refusals.{number, Answered}

-- a layer's refusals have different numbers
abbrev Told : {E : Type 0} → (E → Refusal) → Type 0
Told {E} layer = (e f : E) → number (layer e) ≡ number (layer f) → e ≡ f

-- the refusal of a number
abbrev draft_of : ℕ → DraftRefusal
draft_of n = get_or (Symbol ∷ LongRight ∷ Full ∷ Repeated ∷ LeadsToItself ∷ NoProduction ∷ RulesFull ∷ AboveItself ∷ []) (n - 1) Symbol

draft_of_number : (e : DraftRefusal) → draft_of (number (Draft e)) ≡ e
draft_of_number Symbol = refl
draft_of_number LongRight = refl
draft_of_number Full = refl
draft_of_number Repeated = refl
draft_of_number LeadsToItself = refl
draft_of_number NoProduction = refl
draft_of_number RulesFull = refl
draft_of_number AboveItself = refl

pub draft_told : Told Draft
draft_told e f h = sym (draft_of_number e) ∙ ap draft_of h ∙ draft_of_number f

abbrev file_of : ℕ → FileRefusal
file_of n = get_or (Mark ∷ Form ∷ Declared ∷ Undeclared ∷ []) (n - 17) ShortText

file_of_number : (e : FileRefusal) → file_of (number (File e)) ≡ e
file_of_number Mark = refl
file_of_number Form = refl
file_of_number Declared = refl
file_of_number Undeclared = refl
file_of_number ShortText = refl

pub file_told : Told File
file_told e f h = sym (file_of_number e) ∙ ap file_of h ∙ file_of_number f

-- where a call that is done leaves `next` and answers what `count` says of it
module _ {V E W : Type 0} (layer : E → Refusal) (told : Told layer) (cause : ℕ → Type 0) (count : W → V) (next before : W) where
  abbrev Answer : Result V E → W → Type 0
  Answer r u = Answered layer cause (λ v after. (v ≡ count after) × (after ≡ next)) before r u

  pub answer_once : (r r' : Result V E) (u u' : W) → Answer r u → Answer r' u' → (r ≡ r') × (u ≡ u')
  answer_once (Ok v) (Ok v') u u' h k =
      let e : u ≡ u' = h.1.1 ∙ sym k.1.1 in
      (ap Ok (h.1.0 ∙ ap count e ∙ sym k.1.0), e)
  answer_once (Ok v) (Err e) u u' h k = absurd (h.0 (number (layer e)) k.0)
  answer_once (Err e) (Ok v) u u' h k = absurd (k.0 (number (layer e)) h.0)
  answer_once (Err e) (Err f) u u' h k =
      let m = number (layer e) in
      let n = number (layer f) in
      let a : ¬ (m < n) = λ l. k.1 m l h.0 in
      let b : ¬ (n < m) = λ l. h.1 n l k.0 in
      (ap Err (told e f (omega arith)), h.2 ∙ sym k.2)
