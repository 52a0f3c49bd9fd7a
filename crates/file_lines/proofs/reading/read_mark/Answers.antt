use Rattle.std.proofs.Common.{◌≡◌, ℕ, List, ◌∷◌, ◌++◌, Some, None, Option, Bor, sym, ap, ◌∙◌, rules}
use Rattle.syntax.proofs.Free.{mark_no_feed}
use Rattle.syntax.proofs.Lines.{mark_bytes}
use Rattle.file_lines.specs.Reading.{ReadsMark}
use Rattle.file_lines.proofs.reading.read_mark.Goals as goal

-- what follows the mark's bytes, or that the text does not begin with them
abbrev CutsMark : List ℕ → Option (Bor (List ℕ)) → Type 0
CutsMark text (Some rest) = text ≡ 82 ∷ 66 ∷ 75 ∷ 32 ∷ 49 ∷ 10 ∷ rest.now
CutsMark text None = (rest : List ℕ) → ¬ (text ≡ 82 ∷ 66 ∷ 75 ∷ 32 ∷ 49 ∷ 10 ∷ rest)

reads_mark : (text : List ℕ) (r : Option (Bor (List ℕ))) → CutsMark text r → ReadsMark text r
reads_mark text (Some rest) e = record { free = mark_no_feed; is = e ∙ ap (λ m. m ++ 10 ∷ rest.now) (sym mark_bytes) }
reads_mark text None none = λ rest l. none rest (l.is ∙ ap (λ m. m ++ 10 ∷ rest) mark_bytes)

pub returns : goal.returns
returns c =
    let cut : CutsMark c.args.text.now c.strip_prefix.result = search rules in
    reads_mark c.args.text.now c.strip_prefix.result cut
