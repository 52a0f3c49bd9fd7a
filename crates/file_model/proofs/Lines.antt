-- A text has one first line.
use Rattle.std.proofs.Common.{◌≡◌, ℕ, List, [], length, get_or, sym, ap, ◌∙◌, arith, length-append}
use Rattle.syntax.specs.Syntax.{start_line}
use Rattle.syntax.specs.Free.{FreeOf}
use Rattle.syntax.proofs.Lines.{before_first, no_first}
use Rattle.file_model.specs.Files.{LineOf}

pub line_once : {text l m r q : List ℕ} → LineOf text l r → LineOf text m q → (l ≡ m) × (r ≡ q)
line_once {text} {l} {m} {r} {q} a b = before_first 10 l m r q a.free b.free (sym a.is ∙ b.is)

pub start_once : {text r q : List ℕ} {s t : ℕ} → LineOf text (start_line s) r → LineOf text (start_line t) q → (s ≡ t) × (r ≡ q)
start_once a b = let e = line_once a b in (omega (arith, ap (λ l. get_or l 6 0) e.0), e.1)

-- its end, byte 10, stands in the text
pub line_fed : {text l r : List ℕ} → LineOf text l r → ¬ FreeOf 10 text
line_fed {text} {l} {r} a f = no_first 10 text l r f a.is

pub line_some : {text l r : List ℕ} → LineOf text l r → ¬ (text ≡ [])
line_some {text} {l} {r} a e = omega (arith, simp length-append at (ap length a.is), ap length e)
