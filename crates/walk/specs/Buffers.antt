-- The bytes of a line as they come in parts. Assumes nothing.
use Rattle.std.specs.Prelude.{◌≡◌, ℕ, List, ◌++◌, take, Some, None, Option}
use Rattle.std.specs.Borrow.{Bor}
use Rattle.syntax.specs.Free.{FreeOf}
use Rattle.file_model.specs.Files.{LineOf}
use Rattle.grammar.specs.Bytes.{items}
use Rattle.walk.specs.declared.line_buffer.LineBuffer.{LineBuffer}

-- the bytes that a buffer holds
abbrev pub held : LineBuffer → List ℕ
held b = items b.bytes

-- what is kept of a line: its first 16,385 bytes
abbrev pub kept : List ℕ → List ℕ
kept = take 16385

-- where the bytes before are held of a line that goes on with the part: up to the first line feed, byte 10, behind which the rest of the
-- part is left, or to the end of the part
abbrev pub TakesOn : List ℕ → List ℕ → Option (Bor (List ℕ)) → List ℕ → Type 0
TakesOn before part (Some rest) after = (more : List ℕ) × LineOf part more rest.now × (after ≡ kept (before ++ more))
TakesOn before part None after = FreeOf 10 part × (after ≡ kept (before ++ part))
