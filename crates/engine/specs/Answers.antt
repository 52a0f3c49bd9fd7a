-- What reading a line by a book answers, and what it leaves in the output. Assumes nothing.
use Rattle.std.specs.Prelude.{◌≡◌, ℕ, ◌+◌, ◌*◌, ◌/◌, ◌<◌, ◌≤◌, min, List, [], ◌∷◌, ◌++◌, length, take, drop, Ok, Err}
use Rattle.grammar.specs.declared.refusals.Refusal.{Refusal}
use Rattle.grammar.specs.Refusals.{number}
use Rattle.grammar.specs.Grammar.{Grammar}
use Rattle.grammar.specs.Trees.{Tree}
use Rattle.theory.specs.Claims.{Sentence}
use Rattle.listing_theory.specs.declared.record.Record.{Record}
use Rattle.listing_theory.specs.Listings.{listing, Smallest}
use Rattle.file_model.specs.Spelled.{Spelled}
use Rattle.file_model.specs.Files.{Reads, fault as book_fault}
use Rattle.reading.specs.declared.reading.Reading.{Reading}
use Rattle.reading.specs.Readings.{words, grammar_of, Long, Opened}
use Rattle.lines.specs.Lines.{PutsLine, fault as line_fault}

-- an answer: the refusal's number or 0, and 256 times a count, a line or a place
abbrev pub packed : ℕ → ℕ → ℕ
packed n more = n + 256 * more

-- the bytes of records, three of each
abbrev pub bytes : List Record → List ℕ
bytes [] = []
bytes (x ∷ xs) = x.production ∷ x.start ∷ x.end ∷ bytes xs

-- how many whole records an output has room for, of at most 65535
abbrev pub room : List ℕ → ℕ
room output = min (length output / 3) 65535

-- the output with the records written over its first bytes
abbrev pub written : List Record → List ℕ → List ℕ
written xs output = bytes xs ++ drop (3 * length xs) output

-- The answer to listing the words of a line of the size, with the output before and after: the number of records of the smallest
-- tree, which are written; 15 where they have no room, with as many of them as have; 13 at the line's end where the words have no
-- tree, with nothing written.
pub data Lists (g : Grammar) (ws : List ℕ) (size : ℕ) (before : List ℕ) : ℕ → List ℕ → Type 0 where
  whole : {t : Tree} → Smallest g ws t → length (listing 0 t) ≤ room before → Lists g ws size before (packed 0 (length (listing 0 t))) (written (listing 0 t) before)
  cut : {t : Tree} → Smallest g ws t → room before < length (listing 0 t) → Lists g ws size before (packed 15 0) (written (take (room before) (listing 0 t)) before)
  no_sentence : (¬ Sentence g ws) → Lists g ws size before (packed 13 size) before

-- the reading was opened for the grammar on a chart that is long enough
pub record Opens (g : Grammar) (r : Reading) : Type 0 where
  pub chart : List ℕ
  pub long : Long chart
  pub opened : Opened chart r
  pub grammar : grammar_of r ≡ g

-- what reading the line by a book that was read answers: a refusal of the line with its place, and the output stays, or its listing
pub data ReadsBy (s : Spelled) (line before : List ℕ) : ℕ → List ℕ → Type 0 where
  line_refused :
      {r q : Reading} {e : Refusal} {place : ℕ} →
      Opens s.draft r →
      PutsLine s.spellings line r (Err (line_fault e place)) q →
      ReadsBy s line before (packed (number e) place) before
  line_put :
      {r q : Reading} {n a : ℕ} {after : List ℕ} →
      Opens s.draft r →
      PutsLine s.spellings line r (Ok n) q →
      Lists s.draft (words q) (length line) before a after →
      ReadsBy s line before a after

-- what reading the line by a book's text answers: a refusal of the book with its line, and the output stays, or what the book answers
pub data Answers (book line before : List ℕ) : ℕ → List ℕ → Type 0 where
  book_refused : {s : Spelled} {e : Refusal} {n : ℕ} → Reads book (Err (book_fault e n)) s → Answers book line before (packed (number e) n) before
  book_read : {s : Spelled} {version a : ℕ} {after : List ℕ} → Reads book (Ok version) s → ReadsBy s line before a after → Answers book line before a after
