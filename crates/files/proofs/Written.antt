-- The text of a spelled grammar as it is written. Assumes nothing.
use Rattle.std.proofs.Common.{◌≡◌, ℕ, ◌+◌, ◌<◌, List, ◌++◌, map, length, get_or, drop, Ok, Err, sym, ap, ◌∙◌, subst, arith}
use native.Mathlib.Decide.{dec_lt}
use Rattle.std.proofs.lemmas.List.{append_assoc}
use Rattle.grammar.specs.declared.refusals.FileRefusal.{FileRefusal}
use Rattle.grammar.specs.Grammar.{right_at}
use Rattle.syntax.specs.Syntax.{word_line, mark_line, start_line}
use Rattle.syntax.specs.declared.text.TextWriter.{TextWriter}
use Rattle.syntax.specs.Writing.{overlaid, Writes}
use Rattle.syntax.proofs.Writes.{length_overlaid, overlaid_whole, overlaid_cut}
use Rattle.file_model.specs.Spelled.{Spelled, Unspelled}
use Rattle.file_model.specs.Files.{production_form, rule_form, ended, rendered, text_of, WritesFile}
use Rattle.spellings.specs.Writing.{AllSpelled}
use Rattle.file_lines.proofs.Written.{line, joined_append}

-- where no kind lacks a spelling, none of a right side does
pub right_spelled : (s : Spelled) → (¬ Unspelled s) → (p : ℕ) → p < length s.draft.productions → AllSpelled s.spellings (right_at s.draft.productions p)
right_spelled s every p l k m =
    elim (dec_lt (get_or (right_at s.draft.productions p) k 0) (16 + length s.spellings)) [
      | yes h ↦ h
      | no h ↦ absurd (every (p, k, l, m, omega arith))
    ]

-- the text of a spelled grammar: the first two lines, then its words, productions and rules
pub text_bytes :
    (s : Spelled) (start : ℕ) →
    start ≡ s.draft.start →
    text_of s
    ≡ (ended mark_line ++ ended (start_line start))
    ++ (rendered (map word_line s.spellings) ++ (rendered (map (production_form s.spellings) s.draft.productions) ++ rendered (map rule_form s.draft.rules)))
text_bytes s start e =
    let ws = map word_line s.spellings in
    let ps = map (production_form s.spellings) s.draft.productions in
    let rs = map rule_form s.draft.rules in
    ap (λ (t : List ℕ). ended mark_line ++ (ended (start_line s.draft.start) ++ t)) (joined_append line ws (ps ++ rs) ∙ ap (λ (t : List ℕ). rendered ws ++ t) (joined_append line ps rs))
    ∙ ap (λ (n : ℕ). ended mark_line ++ (ended (start_line n) ++ (rendered ws ++ (rendered ps ++ rendered rs)))) (sym e)
    ∙ sym (append_assoc (ended mark_line) (ended (start_line start)) (rendered ws ++ (rendered ps ++ rendered rs)))

-- what is written from the start of the text on is the answer to writing a file
pub writes_all :
    (s : Spelled) → (¬ Unspelled s) → (b : List ℕ) (w v : TextWriter) (n : ℕ) →
    w.out.now ≡ b →
    w.end ≡ 0 →
    n ≡ v.end →
    Writes w (text_of s) (Ok tt) v →
    WritesFile s b (Ok n) v.out.now
writes_all s every b w v n f z k (o, e) =
    let within = v.within in
    let text : v.out.now ≡ overlaid b 0 (text_of s) = o.text ∙ ap (λ (t : List ℕ). overlaid t w.end (text_of s)) f ∙ ap (λ (i : ℕ). overlaid b i (text_of s)) z in
    let size : length v.out.now ≡ length b = ap length text ∙ length_overlaid b 0 (text_of s) in
    let same : n ≡ length (text_of s) = omega arith in
    (every, same, omega arith, text ∙ overlaid_whole b (text_of s) (omega arith) ∙ ap (λ (i : ℕ). text_of s ++ drop i b) (sym same))

pub writes_front :
    (s : Spelled) → (¬ Unspelled s) → (b : List ℕ) (w v : TextWriter) (e : FileRefusal) →
    w.out.now ≡ b →
    w.end ≡ 0 →
    Writes w (text_of s) (Err e) v →
    WritesFile s b (Err e) v.out.now
writes_front s every b w v e f z (q, o, k, l) =
    let text : v.out.now ≡ overlaid b 0 (text_of s) = o.text ∙ ap (λ (t : List ℕ). overlaid t w.end (text_of s)) f ∙ ap (λ (i : ℕ). overlaid b i (text_of s)) z in
    let size : length w.out.now ≡ length b = ap length f in
    subst (λ (x : FileRefusal). WritesFile s b (Err x) v.out.now) (sym q) (every, omega arith, text ∙ overlaid_cut b (text_of s) (omega arith))
