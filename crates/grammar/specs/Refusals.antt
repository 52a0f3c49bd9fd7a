-- The number of each refusal, and what an answer to a call says. Assumes nothing.
use Rattle.std.specs.Prelude.{◌≡◌, ℕ, ◌<◌, Ok, Err, Result}
use Rattle.grammar.specs.declared.refusals.DraftRefusal.TheVariants.{Symbol, LongRight, Full, Repeated, LeadsToItself, NoProduction, RulesFull, AboveItself}
use Rattle.grammar.specs.declared.refusals.ReadingRefusal.TheVariants.{LineFull, NoKind, NothingBegins, NoWord, NoSentence, ShortChart, ShortListing, ShortTable}
use Rattle.grammar.specs.declared.refusals.FileRefusal.TheVariants.{Mark, Form, Declared, Undeclared, ShortText}
use Rattle.grammar.specs.declared.refusals.LineRefusal.TheVariants.{UnknownWord}
use Rattle.grammar.specs.declared.refusals.Refusal.{Refusal}
use Rattle.grammar.specs.declared.refusals.Refusal.TheVariants.{Draft, Reading, File, Line}

-- the number of every refusal
abbrev pub number : Refusal → ℕ
number (Draft Symbol) = 1
number (Draft LongRight) = 2
number (Draft Full) = 3
number (Draft Repeated) = 4
number (Draft LeadsToItself) = 5
number (Draft NoProduction) = 6
number (Draft RulesFull) = 7
number (Draft AboveItself) = 8
number (Reading LineFull) = 9
number (Reading NoKind) = 10
number (Reading NothingBegins) = 11
number (Reading NoWord) = 12
number (Reading NoSentence) = 13
number (Reading ShortChart) = 14
number (Reading ShortListing) = 15
number (Reading ShortTable) = 16
number (File Mark) = 17
number (File Form) = 18
number (File Declared) = 19
number (File Undeclared) = 20
number (File ShortText) = 22
number (Line UnknownWord) = 21

-- A call's answer, by the causes that each number has: where no cause applies the call is done, with its value and what is there
-- after it; else the answer is the smallest number that applies, and what was there before is there after.
abbrev pub Answered : {V E W : Type 0} → (E → Refusal) → (ℕ → Type 0) → (V → W → Type 0) → W → Result V E → W → Type 0
Answered layer cause done before (Ok v) after = ((n : ℕ) → ¬ cause n) × done v after
Answered layer cause done before (Err e) after = cause (number (layer e)) × ((n : ℕ) → n < number (layer e) → ¬ cause n) × (after ≡ before)
