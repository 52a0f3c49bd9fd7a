-- What is written is read back.
use Rattle.std.proofs.Common.{ℕ, ◌≤◌, List, length, take, drop, Ok, Err, Result, sym, ap, ◌∙◌, subst, arith, length-append}
use Rattle.std.proofs.lemmas.List.{length-map, take_at}
use Rattle.grammar.specs.declared.refusals.FileRefusal.{FileRefusal}
use Rattle.syntax.specs.Syntax.{mark_line, start_line}
use Rattle.syntax.proofs.Free.{mark_no_feed, start_no_feed}
use Rattle.syntax.proofs.Lines.{mark_bytes}
use Rattle.file_model.specs.Spelled.{Spelled, Unspelled, SoundSpelled}
use Rattle.file_model.specs.Files.{Reads, from_start, started, forms, text_of, WritesFile, ReadBack, WritesBack, WrittenIsReadBack}
use Rattle.file_model.proofs.Unique.{reads_once}
use Rattle.file_model.proofs.Taken.{AllTaken, taken_append, ended_line, taken_read, taken_length}
use Rattle.file_model.proofs.Words.{words_taken}
use Rattle.file_model.proofs.Productions.{productions_taken}
use Rattle.file_model.proofs.Rules.{rules_taken}

module _ (s : Spelled) (sound : SoundSpelled s) (all_spelled : ¬ Unspelled s) where
  forms_taken : AllTaken (started s.draft.start) (forms s) s
  forms_taken =
      taken_append (words_taken s.spellings sound.spellings _)
      (taken_append (productions_taken s sound all_spelled) (rules_taken s sound.draft))

  few_forms : length (forms s) ≤ 128
  few_forms =
      let small = sound.draft.small in
      simp (length-append, length-map) (omega (arith, sound.spellings.few))

  text_fits : length (text_of s) ≤ 16384
  text_fits =
      simp length-append (omega (arith, taken_length forms_taken, few_forms, ap length mark_bytes))

  reads_back : Reads (text_of s) (Ok 1) s
  reads_back =
      from_start text_fits (ended_line mark_line _ mark_no_feed) sound.draft.starts
      (ended_line (start_line s.draft.start) _ (start_no_feed s.draft.start))
      (taken_read forms_taken 3)

pub written_is_read_back : WrittenIsReadBack
written_is_read_back s sound all_spelled =
    let back = reads_back s sound all_spelled in
    record { back = back; only = λ r t h. reads_once (text_of s) r (Ok 1) t s h back }

-- and so is what is written into a text
pub writes_back : (s : Spelled) → SoundSpelled s → (before : List ℕ) (r : Result ℕ FileRefusal) (after : List ℕ) → WritesFile s before r after → WritesBack s r after
writes_back s sound before (Ok n) after w =
    subst (λ (text : List ℕ). ReadBack text s) (sym (ap (take n) w.3 ∙ take_at (text_of s) (drop n before) n (sym w.1))) (written_is_read_back s sound w.0)
writes_back s sound before (Err e) after w = tt
