-- What reading a part of a line answers. Assumes nothing.
use Rattle.std.specs.Prelude.{◌≡◌, ℕ, ◌+◌, ◌<◌, List, ◌∷◌, drop, Some, None, Option}
use Rattle.std.specs.Borrow.{Bor}
use Rattle.grammar.specs.declared.rule.Relation.{Relation}
use Rattle.syntax.specs.Syntax.{rule_line, HasForm, mark_line, start_line}
use Rattle.file_model.specs.Files.{LineOf}

-- what follows the first line, or that the text does not begin with it
abbrev pub ReadsMark : List ℕ → Option (Bor (List ℕ)) → Type 0
ReadsMark text (Some rest) = LineOf text mark_line rest.now
ReadsMark text None = (rest : List ℕ) → ¬ LineOf text mark_line rest

-- the start symbol and what follows the second line, or that the text does not begin with such a line
abbrev pub ReadsStart : List ℕ → Option (ℕ × Bor (List ℕ)) → Type 0
ReadsStart text (Some r) = (r.0 < 16) × LineOf text (start_line r.0) r.1.now
ReadsStart text None = (symbol : ℕ) (body : List ℕ) → symbol < 16 → ¬ LineOf text (start_line symbol) body

-- what stands behind `word` and its space, or that the line does not begin so
abbrev pub CutsWord : List ℕ → Option (Bor (List ℕ)) → Type 0
CutsWord line (Some part) = line ≡ 119 ∷ 111 ∷ 114 ∷ 100 ∷ 32 ∷ part.now
CutsWord line None = (part : List ℕ) → ¬ (line ≡ 119 ∷ 111 ∷ 114 ∷ 100 ∷ 32 ∷ part)

-- the left nonterminal and what stands behind its sign =, or that the line does not begin so
abbrev pub CutsLeft : List ℕ → Option (ℕ × Bor (List ℕ)) → Type 0
CutsLeft line (Some r) = (r.0 < 16) × (line ≡ (65 + r.0) ∷ 32 ∷ 61 ∷ 32 ∷ r.1.now)
CutsLeft line None = (left : ℕ) (rest : List ℕ) → left < 16 → ¬ (line ≡ (65 + left) ∷ 32 ∷ 61 ∷ 32 ∷ rest)

-- the byte before a space and what follows the space, or that the text does not begin so
abbrev pub CutsSign : List ℕ → Option (ℕ × Bor (List ℕ)) → Type 0
CutsSign text (Some r) = text ≡ r.0 ∷ 32 ∷ r.1.now
CutsSign text None = (sign : ℕ) (rest : List ℕ) → ¬ (text ≡ sign ∷ 32 ∷ rest)

-- the numbers and the relation of a rule line, or that the line is none
abbrev pub ReadsRule : List ℕ → Option (ℕ × Relation × ℕ) → Type 0
ReadsRule line (Some r) = HasForm line (rule_line r.0 r.1 r.2)
ReadsRule line None = (upper : ℕ) (r : Relation) (lower : ℕ) → ¬ HasForm line (rule_line upper r lower)

-- a semicolon and a space stand at the index
abbrev pub SemicolonAt : List ℕ → ℕ → Type 0
SemicolonAt text at = (rest : List ℕ) × (drop at text ≡ 59 ∷ 32 ∷ rest)
