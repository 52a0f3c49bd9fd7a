-- What reading the right side of a production line answers. Assumes nothing.
use Rattle.std.specs.Prelude.{◌≡◌, ℕ, ◌<◌, ◌≤◌, List, length, Ok, Err, Result, Some, None, Option}
use Rattle.grammar.specs.declared.bytes.Bytes.{Bytes}
use Rattle.grammar.specs.Bytes.{items}
use Rattle.syntax.specs.Syntax.{Spelling, Symbol, ValidSymbols, spaced, right_parts}
use Rattle.file_model.specs.Spelled.{RightSide, Undeclared as SomeUndeclared}
use Rattle.spellings.specs.declared.right.PricedRight.{PricedRight}
use Rattle.spellings.specs.declared.right.RightFault.{RightFault}
use Rattle.spellings.specs.declared.right.RightFault.TheVariants.{Undeclared, Long}

-- what is kept of the written symbols of a right side: the symbols, that some are not declared, or that all are and there are more than six
abbrev pub Gathers : List Spelling → List Symbol → Result (Bytes 6) RightFault → Type 0
Gathers ws symbols (Ok right) = RightSide ws symbols (items right)
Gathers ws symbols (Err Undeclared) = SomeUndeclared ws symbols
Gathers ws symbols (Err Long) = (xs : List ℕ) × RightSide ws symbols xs × (6 < length xs)

-- the right side and the price of a production line, as they stand behind its sign =
abbrev pub ReadsRight : List Spelling → List ℕ → Option PricedRight → Type 0
ReadsRight ws text (Some r) =
    (symbols : List Symbol) × ValidSymbols symbols × (r.price ≤ 65535) × (text ≡ spaced (right_parts symbols r.price)) × Gathers ws symbols r.right
ReadsRight ws text None = (symbols : List Symbol) (price : ℕ) → ValidSymbols symbols → price ≤ 65535 → ¬ (text ≡ spaced (right_parts symbols price))
