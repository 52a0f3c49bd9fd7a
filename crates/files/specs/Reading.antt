-- What reading a line answers, by its form. Assumes nothing.
use Rattle.std.specs.Prelude.{◌≡◌, ℕ, List, Err, Result}
use Rattle.grammar.specs.declared.refusals.FileRefusal.TheVariants.{Form}
use Rattle.grammar.specs.declared.refusals.Refusal.{Refusal}
use Rattle.grammar.specs.declared.refusals.Refusal.TheVariants.{File}
use Rattle.syntax.specs.Syntax.{Line, word_line, production_line, rule_line, HasForm}
use Rattle.file_model.specs.Spelled.{Spelled}
use Rattle.file_model.specs.Files.{Does}

-- the form is that of a word line
abbrev pub IsWord : Line → Type 0
IsWord (word_line w) = Unit {0}
IsWord (production_line left symbols price) = ⊥
IsWord (rule_line upper r lower) = ⊥

-- the form is that of a production line
abbrev pub IsProduction : Line → Type 0
IsProduction (word_line w) = ⊥
IsProduction (production_line left symbols price) = Unit {0}
IsProduction (rule_line upper r lower) = ⊥

-- the form is that of a rule line
abbrev pub IsRule : Line → Type 0
IsRule (word_line w) = ⊥
IsRule (production_line left symbols price) = ⊥
IsRule (rule_line upper r lower) = Unit {0}

-- what a line does where only the forms of one sort are in question: that of its form, or a refusal where it has none of them
pub data ReadsAs (Sort : Line → Type 0) (s : Spelled) (line : List ℕ) (r : Result (Unit {0}) Refusal) (t : Spelled) : Type 0 where
  as_form : (form : Line) → Sort form → HasForm line form → Does s form r t → ReadsAs Sort s line r t
  as_none : ((form : Line) → Sort form → ¬ HasForm line form) → r ≡ Err (File Form) → t ≡ s → ReadsAs Sort s line r t
