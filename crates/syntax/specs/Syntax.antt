-- The text of a grammar file: what each form of line is written as. A line has a form exactly if its bytes are that form's
-- rendering. Assumes nothing.
use Rattle.std.specs.Prelude.{◌≡◌, ℕ, ◌+◌, ◌<◌, ◌≤◌, List, [], ◌∷◌, ◌++◌, length, codes, decimal, slice_index}
use Rattle.grammar.specs.declared.rule.Relation.{Relation}
use Rattle.grammar.specs.declared.rule.Relation.TheVariants.{Priority, Left, Right, NonAssoc}

-- how a kind is spelled: by the bytes of a literal, or as any name or any number
pub data Spelling : Type 0 where
  literal : List ℕ → Spelling
  name num : Spelling

-- a symbol of a right side as it is written: a nonterminal, or a kind by its spelling
pub data Symbol : Type 0 where
  nonterminal : ℕ → Symbol
  spelled : Spelling → Symbol

-- the forms of the lines behind the second
pub data Line : Type 0 where
  -- the next kind's spelling
  word_line : Spelling → Line
  -- the left nonterminal, the symbols of the right side, and the price
  production_line : ℕ → List Symbol → ℕ → Line
  -- two production numbers with a relation between them
  rule_line : ℕ → Relation → ℕ → Line

-- a byte that may stand in a literal: from 33 to 126 without the quote
abbrev pub LiteralByte : ℕ → Type 0
LiteralByte b = (33 ≤ b) × (b ≤ 126) × (¬ (b ≡ 34))

abbrev pub ValidSpelling : Spelling → Type 0
ValidSpelling (literal bs) = (1 ≤ length bs) × (length bs ≤ 8) × ((k : ℕ) → k < length bs → LiteralByte (slice_index bs k))
ValidSpelling name = Unit {0}
ValidSpelling num = Unit {0}

abbrev pub ValidSymbol : Symbol → Type 0
ValidSymbol (nonterminal s) = s < 16
ValidSymbol (spelled w) = ValidSpelling w

abbrev pub ValidSymbols : List Symbol → Type 0
ValidSymbols [] = Unit {0}
ValidSymbols (s ∷ ss) = ValidSymbol s × ValidSymbols ss

-- what can be written in a line of the form
abbrev pub Valid : Line → Type 0
Valid (word_line w) = ValidSpelling w
Valid (production_line left symbols price) = (left < 16) × ValidSymbols symbols × (price ≤ 65535)
Valid (rule_line upper r lower) = (upper ≤ 65535) × (lower ≤ 65535)

-- the letter of a nonterminal, A to P
abbrev pub letter : ℕ → List ℕ
letter s = (65 + s) ∷ []

abbrev pub spelling_text : Spelling → List ℕ
spelling_text (literal bs) = 34 ∷ (bs ++ 34 ∷ [])
spelling_text name = codes "NAME"
spelling_text num = codes "NUM"

abbrev pub symbol_text : Symbol → List ℕ
symbol_text (nonterminal s) = letter s
symbol_text (spelled w) = spelling_text w

-- the byte of a relation: > L R N
abbrev pub sign : Relation → ℕ
sign Priority = 62
sign Left = 76
sign Right = 82
sign NonAssoc = 78

-- parts, parted by one space
abbrev pub spaced : List (List ℕ) → List ℕ
spaced [] = []
spaced (part ∷ []) = part
spaced (part ∷ next ∷ parts) = part ++ 32 ∷ spaced (next ∷ parts)

-- what stands behind a production's sign =: its symbols, a semicolon and the price
abbrev pub right_parts : List Symbol → ℕ → List (List ℕ)
right_parts [] price = (59 ∷ []) ∷ decimal price ∷ []
right_parts (s ∷ ss) price = symbol_text s ∷ right_parts ss price

abbrev pub parts : Line → List (List ℕ)
parts (word_line w) = codes "word" ∷ spelling_text w ∷ []
parts (production_line left symbols price) = letter left ∷ (61 ∷ []) ∷ right_parts symbols price
parts (rule_line upper r lower) = decimal upper ∷ (sign r ∷ []) ∷ decimal lower ∷ []

-- the bytes of a line of the form
abbrev pub render : Line → List ℕ
render form = spaced (parts form)

-- the first two lines: the mark with the version, and the start symbol
abbrev pub mark_line : List ℕ
mark_line = spaced (codes "RBK" ∷ decimal 1 ∷ [])

abbrev pub start_line : ℕ → List ℕ
start_line s = spaced (codes "start" ∷ letter s ∷ [])

-- the line has the form
abbrev pub HasForm : List ℕ → Line → Type 0
HasForm line form = Valid form × (line ≡ render form)
