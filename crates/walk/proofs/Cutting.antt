-- A line is judged by its first bytes. Assumes nothing.
use Rattle.std.proofs.Common.{◌≡◌, ℕ, ◌<◌, List, length, Ok, Result, refl, subst, arith}
use native.Mathlib.Decide.{dec_lt}
use Rattle.std.proofs.lemmas.List.{take_all, length-take}
use Rattle.syntax.specs.Syntax.{Spelling}
use Rattle.reading.specs.declared.reading.Reading.{Reading}
use Rattle.lines.specs.declared.fault.LineFault.{LineFault}
use Rattle.lines.specs.Lines.{PutsLine, too_long, by_words}
use Rattle.walk.specs.Buffers.{kept}
use Rattle.walk.specs.declared.scores.Scores.{Scores}
use Rattle.walk.specs.Verdicts.{LineJudged, word_refused, words_put, JudgedByKept}

module _ (line : List ℕ) (long : 16384 < length line) where
  kept_long : 16384 < length (kept line)
  kept_long = let e = length-take 16385 line in omega arith

  long_puts : {ss : List Spelling} {r q : Reading} (a : Result ℕ LineFault) → PutsLine ss (kept line) r a q → PutsLine ss line r a q
  long_puts a (too_long l) = too_long long
  long_puts a (by_words l cut h) = absurd (let m = kept_long in omega arith)

  -- a long line is not put
  taken_short : {ss : List Spelling} {r q : Reading} (a : Result ℕ LineFault) (n : ℕ) → a ≡ Ok n → ¬ PutsLine ss (kept line) r a q
  taken_short a n e (too_long l) = let z : ◌≡◌ {A = ℕ} 0 1 = cc in omega arith
  taken_short a n e (by_words l cut h) = let m = kept_long in omega arith

pub judged_by_kept : JudgedByKept
judged_by_kept g ss chart line v j =
    elim (dec_lt 16384 (length line)) [
      | yes long ↦ of_long long v j
      | no short ↦ subst (λ bytes. LineJudged g ss chart bytes v) (take_all 16385 line (omega arith)) j
    ]
  where
    of_long : 16384 < length line → (u : Result Scores LineFault) → LineJudged g ss chart (kept line) u → LineJudged g ss chart line u
    of_long long u (word_refused fault o p) = word_refused fault o (long_puts line long _ p)
    of_long long u (words_put n o p s w) = absurd (taken_short line long _ n refl p)
