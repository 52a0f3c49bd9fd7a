-- What reading a part of a line answers. Assumes nothing.
use Rattle.std.specs.Prelude.{◌≡◌, ℕ, ◌<◌, ◌≤◌, List, [], ◌∷◌, ◌++◌, length, Some, None, decimal, Option, slice_index}
use Rattle.std.specs.Borrow.{Bor}
use Rattle.std.specs.Str.Parse.{AllDigits, digits_value}
use Rattle.grammar.specs.declared.rule.Relation.{Relation}
use Rattle.syntax.specs.declared.spelling.Spelling.{Spelling}
use Rattle.syntax.specs.declared.spelling.Symbol.{Symbol}
use Rattle.syntax.specs.Free.{FreeOf}
use Rattle.syntax.specs.Syntax.{ValidSpelling, ValidSymbol, spelling_text, symbol_text, letter, sign}
use Rattle.syntax.specs.Model.{spelling, symbol}

-- the first index where the byte stands, or that there is none
abbrev pub FirstFound : List ℕ → ℕ → Option ℕ → Type 0
FirstFound bytes byte (Some r) = (r < length bytes) × (slice_index bytes r ≡ byte) × ((k : ℕ) → k < r → ¬ (slice_index bytes k ≡ byte))
FirstFound bytes byte None = (k : ℕ) → k < length bytes → ¬ (slice_index bytes k ≡ byte)

-- what stands before the first such byte and behind it, or that the byte does not stand in the text
abbrev pub CutsAt : ℕ → List ℕ → Option (Bor (List ℕ) × Bor (List ℕ)) → Type 0
CutsAt byte text (Some p) = FreeOf byte p.0.now × (text ≡ p.0.now ++ byte ∷ p.1.now)
CutsAt byte text None = FreeOf byte text

-- the valid value that is written as x, or that no valid value is
abbrev pub Reads : {V W X : Type 0} → (V → W) → (W → Type 0) → (W → X) → X → Option V → Type 0
Reads model Fit text x (Some v) = Fit (model v) × (x ≡ text (model v))
Reads {W = W} model Fit text x None = (w : W) → Fit w → ¬ (x ≡ text w)

-- the number that digits write, or that some byte is no digit
abbrev pub ReadsDigits : List ℕ → Option ℕ → Type 0
ReadsDigits bytes (Some n) = AllDigits 10 bytes × (n ≡ digits_value 10 bytes)
ReadsDigits bytes None = ¬ AllDigits 10 bytes

-- a number up to 65535, from its decimal digits
abbrev pub ReadsNumber : List ℕ → Option ℕ → Type 0
ReadsNumber = Reads (λ (n : ℕ). n) (λ n. n ≤ 65535) decimal

-- a spelling, from its text
abbrev pub ReadsSpelling : List ℕ → Option Spelling → Type 0
ReadsSpelling = Reads spelling ValidSpelling spelling_text

-- a symbol of a right side, from its text
abbrev pub ReadsSymbol : List ℕ → Option Symbol → Type 0
ReadsSymbol = Reads symbol ValidSymbol symbol_text

-- a nonterminal, from its letter
abbrev pub ReadsLetter : List ℕ → Option ℕ → Type 0
ReadsLetter = Reads (λ (s : ℕ). s) (λ s. s < 16) letter

-- a relation, from the byte of its sign
abbrev pub ReadsRelation : ℕ → Option Relation → Type 0
ReadsRelation = Reads (λ (r : Relation). r) (λ _. Unit {0}) sign

-- what stands between the quotes at both ends, or that there are none
abbrev pub Quoted : List ℕ → Option (Bor (List ℕ)) → Type 0
Quoted part (Some inner) = part ≡ 34 ∷ (inner.now ++ 34 ∷ [])
Quoted part None = (bs : List ℕ) → ¬ (part ≡ 34 ∷ (bs ++ 34 ∷ []))
