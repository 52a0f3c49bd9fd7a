-- Lines that are taken one after the other are read from their text.
use Rattle.std.proofs.Common.{◌≡◌, ℕ, suc, ◌*◌, ◌≤◌, List, [], ◌∷◌, ◌++◌, map, length, Ok, sym, refl, ◌∙◌, subst, arith, length-append}
use Rattle.std.proofs.lemmas.List.{append_assoc, append-nil}
use Rattle.syntax.specs.Syntax.{Line, Valid, render}
use Rattle.syntax.specs.Free.{FreeOf}
use Rattle.syntax.proofs.Free.{render_no_feed}
use Rattle.file_model.specs.Spelled.{Spelled}
use Rattle.file_model.specs.Files.{Does, of_form, LineOf, ReadsFrom, reads_end, reads_on, ended, rendered}

-- a line of the form can be written, is not long, and is taken
pub record Taken (s : Spelled) (form : Line) (t : Spelled) : Type 0 where
  pub valid : Valid form
  pub short : length (render form) ≤ 77
  pub does : Does s form (Ok tt) t

pub data AllTaken : Spelled → List Line → Spelled → Type 0 where
  taken_none : {s : Spelled} → AllTaken s [] s
  taken_more : {s t u : Spelled} {form : Line} {fs : List Line} → Taken s form t → AllTaken t fs u → AllTaken s (form ∷ fs) u

pub taken_append : {s t u : Spelled} {fs gs : List Line} → AllTaken s fs t → AllTaken t gs u → AllTaken s (fs ++ gs) u
taken_append taken_none b = b
taken_append (taken_more h a) b = taken_more h (taken_append a b)

-- the elements of a list are taken one after the other where each is taken behind those before it
module _ {X : Type 0} (state : List X → Spelled) (form : X → Line) (xs : List X)
    (step : (before : List X) (x : X) (rest : List X) → xs ≡ before ++ x ∷ rest → Taken (state before) (form x) (state (before ++ x ∷ []))) where
  taken_from : (rest before : List X) → xs ≡ before ++ rest → AllTaken (state before) (map form rest) (state xs)
  taken_from [] before e = subst (λ l. AllTaken (state before) [] (state l)) (sym (e ∙ append-nil before)) taken_none
  taken_from (x ∷ rest) before e = taken_more (step before x rest e) (taken_from rest (before ++ x ∷ []) (e ∙ sym (append_assoc before (x ∷ []) rest)))

  pub taken_each : AllTaken (state []) (map form xs) (state xs)
  taken_each = taken_from xs [] refl

pub ended_line : (line rest : List ℕ) → FreeOf 10 line → LineOf (ended line ++ rest) line rest
ended_line line rest f = record { free = f; is = append_assoc line (10 ∷ []) rest }

pub taken_read : {s t : Spelled} {fs : List Line} → AllTaken s fs t → (n : ℕ) → ReadsFrom n s (rendered fs) (Ok 1) t
taken_read taken_none n = reads_end
taken_read (taken_more {form = form} {fs = fs} h a) n =
    reads_on (ended_line (render form) (rendered fs) (render_no_feed form h.valid)) (of_form form (h.valid, refl) h.does) (taken_read a (suc n))

pub taken_length : {s t : Spelled} {fs : List Line} → AllTaken s fs t → length (rendered fs) ≤ 78 * length fs
taken_length taken_none = omega arith
taken_length (taken_more {form = form} {fs = fs} h a) =
    let short = h.short in
    simp length-append (omega (arith, taken_length a))
