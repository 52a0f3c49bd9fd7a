-- How many lines a text has. Assumes nothing.
use Rattle.std.specs.Prelude.{◌≡◌, ℕ, suc, List, []}
use Rattle.syntax.specs.Free.{FreeOf}
use Rattle.file_model.specs.Files.{LineOf}

-- the text has n lines: each ends with a line feed, byte 10, which the last may lack
pub data HasLines : List ℕ → ℕ → Type 0 where
  no_lines : HasLines [] 0
  unended_line : {text : List ℕ} → (¬ (text ≡ [])) → FreeOf 10 text → HasLines text 1
  ended_line : {text line rest : List ℕ} {n : ℕ} → LineOf text line rest → HasLines rest n → HasLines text (suc n)
