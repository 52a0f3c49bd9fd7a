-- The lines of a text. Assumes nothing.
use Rattle.std.proofs.Common.{◌≡◌, ℕ, ◌+◌, ◌≤◌, List, [], ◌∷◌, ◌++◌, length, Ok, ap, arith}
use Rattle.std.proofs.lemmas.List.{length-append}
use Rattle.file_model.specs.Spelled.{Spelled}
use Rattle.file_model.specs.Files.{LineOf, ReadsFrom, reads_end}

-- what follows a line is no longer than the text
pub rest_short : {text line rest : List ℕ} → LineOf text line rest → length rest ≤ length text
rest_short {text} {line} {rest} l = omega (arith, ap length l.is, length-append line (10 ∷ rest))

pub behind_shorter : (text line rest : List ℕ) → text ≡ line ++ 10 ∷ rest → length rest + 1 ≤ length text
behind_shorter text line rest e = omega (arith, ap length e, length-append line (10 ∷ rest))

-- nothing is left to read
pub empty_ends : (n : ℕ) (s : Spelled) (text : List ℕ) → length text ≡ 0 → ReadsFrom n s text (Ok 1) s
empty_ends n s [] e = reads_end
empty_ends n s (x ∷ text) e = absurd (omega arith)
