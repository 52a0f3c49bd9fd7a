-- Writing bytes into a text of a fixed length. Assumes nothing.
use Rattle.std.specs.Prelude.{◌≡◌, ℕ, ◌+◌, ◌<◌, List, [], ◌∷◌, length, Ok, Err, Result, slice_set}
use Rattle.grammar.specs.declared.refusals.FileRefusal.{FileRefusal}
use Rattle.grammar.specs.declared.refusals.FileRefusal.TheVariants.{ShortText}
use Rattle.syntax.specs.declared.text.TextWriter.{TextWriter}

-- the text with the bytes written over it from `at` on, as far as there is room
unfoldable pub overlaid : List ℕ → ℕ → List ℕ → List ℕ
overlaid text at [] = text
overlaid text at (b ∷ bs) = overlaid (slice_set text at b) (at + 1) bs

-- the same lent text, with the bytes written behind those that were, as far as there is room
pub record Wrote (before : TextWriter) (bytes : List ℕ) (after : TextWriter) : Type 0 where
  pub lent : after.out.ghost_name ≡ before.out.ghost_name
  pub text : after.out.now ≡ overlaid before.out.now before.end bytes

-- the answer to writing bytes: that all are written, or that the text is too short and now full
abbrev pub Writes : TextWriter → List ℕ → Result (Unit {0}) FileRefusal → TextWriter → Type 0
Writes before bytes (Ok u) after = Wrote before bytes after × (after.end ≡ before.end + length bytes)
Writes before bytes (Err e) after =
    (e ≡ ShortText) × Wrote before bytes after × (after.end ≡ length before.out.now) × (length before.out.now < before.end + length bytes)
