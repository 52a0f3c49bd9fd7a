-- How large the lines and places of refusals are. Assumes nothing.
use Rattle.std.proofs.Common.{◌≡◌, ℕ, ◌+◌, ◌<◌, ◌≤◌, List, [], ◌∷◌, length, Ok, Err, Result, ap, ◌∙◌, arith}
use Rattle.std.proofs.lemmas.List.{length-append}
use Rattle.syntax.specs.Syntax.{Spelling}
use Rattle.file_model.specs.declared.fault.Fault.{Fault}
use Rattle.file_model.specs.Spelled.{Spelled}
use Rattle.file_model.specs.Files.{LineOf, ReadsFrom, reads_end, reads_cut, reads_on, reads_fault, Reads, too_long, no_mark, no_start, from_start}
use Rattle.reading.specs.declared.reading.Reading.{Reading}
use Rattle.lines.specs.declared.fault.LineFault.{LineFault}
use Rattle.lines.specs.Cuts.{Word, bytes_of, Placed, Starts, starts_run, starts_mark, starts_stray, Cuts, cut_end, cut_blank, cut_word}
use Rattle.lines.specs.Lines.{unknown, refused, PutsWords, all_put, one_refused, one_put, PutsLine, too_long as line_too_long, by_words}
use Rattle.lines.proofs.Nexts.{run_bytes}

-- the line of a fault
abbrev line_of : Result ℕ Fault → ℕ
line_of (Ok v) = 0
line_of (Err f) = f.line

rest_shorter : {text line rest : List ℕ} → LineOf text line rest → length rest < length text
rest_shorter {text} {line} {rest} l = omega (arith, ap length l.is, length-append line (10 ∷ rest))

from_bound : {n : ℕ} {s t : Spelled} {text : List ℕ} {r : Result ℕ Fault} → ReadsFrom n s text r t → line_of r ≤ n + length text
from_bound reads_end = omega arith
from_bound (reads_cut a b) = omega arith
from_bound (reads_on l r m) = omega (arith, from_bound m, rest_shorter l)
from_bound (reads_fault l r) = omega arith

book_bound : {text : List ℕ} {s : Spelled} {r : Result ℕ Fault} → Reads text r s → line_of r ≤ 65535
book_bound (too_long h) = omega arith
book_bound (no_mark h n) = omega arith
book_bound (no_start h m n) = omega arith
book_bound (from_start h m l b r) = omega (arith, from_bound r, rest_shorter m, rest_shorter b)

pub book_line : {text : List ℕ} {s : Spelled} {f : Fault} → Reads text (Err f) s → f.line ≤ 65535
book_line r = book_bound r

-- the place of a fault
abbrev place_of : Result ℕ LineFault → ℕ
place_of (Ok v) = 0
place_of (Err f) = f.place

abbrev AllAtMost : ℕ → List Placed → Type 0
AllAtMost m [] = Unit {0}
AllAtMost m (w ∷ ws) = (w.1 ≤ m) × AllAtMost m ws

starts_length : {text rest : List ℕ} {w : Word} → Starts text w rest → length text ≡ length (bytes_of w) + length rest
starts_length (starts_run {w = w} {run = run} {rest = rest} r e) =
    let b : length (bytes_of w) ≡ length run = ap (λ (x : Word). length (bytes_of x)) e ∙ ap length (run_bytes run) in
    omega (arith, ap length r.is, length-append run rest)
starts_length (starts_mark e i v) = omega (arith, ap length e)
starts_length (starts_stray e i v) = omega (arith, ap length e)

places_below : {at : ℕ} {text : List ℕ} {ws : List Placed} → Cuts at text ws → (m : ℕ) → at + length text ≤ m → AllAtMost m ws
places_below cut_end m h = tt
places_below (cut_blank c) m h = places_below c m (omega arith)
places_below (cut_word s c) m h = (omega arith, places_below c m (omega (arith, starts_length s)))

words_bound : {ss : List Spelling} {r q : Reading} {ws : List Placed} {a : Result ℕ LineFault} → PutsWords ss r ws a q → (m : ℕ) → AllAtMost m ws → place_of a ≤ m
words_bound all_put m h = omega arith
words_bound (one_refused (unknown n)) m h = h.0
words_bound (one_refused (refused k p)) m h = h.0
words_bound (one_put p n) m h = words_bound n m h.1

line_bound : {ss : List Spelling} {line : List ℕ} {r q : Reading} {a : Result ℕ LineFault} → PutsLine ss line r a q → place_of a ≤ 65535
line_bound (line_too_long h) = omega arith
line_bound (by_words h c p) = words_bound p 65535 (places_below c 65535 (omega arith))

pub line_place : {ss : List Spelling} {line : List ℕ} {r q : Reading} {f : LineFault} → PutsLine ss line r (Err f) q → f.place ≤ 65535
line_place p = line_bound p

-- a line that was put is no longer than a line may be
pub line_size : {ss : List Spelling} {line : List ℕ} {r q : Reading} {n : ℕ} → PutsLine ss line r (Ok n) q → length line ≤ 65535
line_size (by_words h c p) = omega arith
