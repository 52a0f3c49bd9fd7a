-- The words of a line, with their places. Assumes nothing.
use Rattle.std.specs.Prelude.{◌≡◌, ℕ, ◌+◌, ◌<◌, true, false, cond, List, [], ◌∷◌, ◌++◌, length}
use Rattle.std.specs.List.{list_all}
use Rattle.lines.specs.Bytes.{is_letter, is_digit, in_run, is_visible, begins}

-- what stands in a line, by its bytes: a name, a number or a mark, or a byte that no word has
pub data Word : Type 0 where
  name number mark stray : List ℕ → Word

-- the bytes of a word
abbrev pub bytes_of : Word → List ℕ
bytes_of (name bs) = bs
bytes_of (number bs) = bs
bytes_of (mark bs) = bs
bytes_of (stray bs) = bs

-- a word with its place, counted in bytes from 0
abbrev pub Placed : Type 0
Placed = Word × ℕ

-- the text is a run and the rest: the run has a byte, all its bytes are a run's, and the rest goes on with no such byte
pub record Run (text run rest : List ℕ) : Type 0 where
  pub is : text ≡ run ++ rest
  pub some : 0 < length run
  pub all : list_all in_run run ≡ true
  pub longest : begins in_run rest ≡ false

-- the word that a run is: a name where it starts with a letter or an underscore, a number where it is all digits, else a mark
abbrev pub word_of_run : List ℕ → Word
word_of_run run = cond (begins is_letter run) (name run) (cond (list_all is_digit run) (number run) (mark run))

-- the text starts with the word, and the rest is behind it
pub data Starts (text : List ℕ) : Word → List ℕ → Type 0 where
  starts_run : {w : Word} {run rest : List ℕ} → Run text run rest → w ≡ word_of_run run → Starts text w rest
  starts_mark : {b : ℕ} {rest : List ℕ} → text ≡ b ∷ rest → in_run b ≡ false → is_visible b ≡ true → Starts text (mark (b ∷ [])) rest
  starts_stray : {b : ℕ} {rest : List ℕ} → text ≡ b ∷ rest → (¬ (b ≡ 32)) → is_visible b ≡ false → Starts text (stray (b ∷ [])) rest

-- the text, whose first byte has the place `at`, is cut into these words: blanks are passed over, and each word is as long as it can be
pub data Cuts : ℕ → List ℕ → List Placed → Type 0 where
  cut_end : {at : ℕ} → Cuts at [] []
  cut_blank : {at : ℕ} {rest : List ℕ} {ws : List Placed} → Cuts (at + 1) rest ws → Cuts at (32 ∷ rest) ws
  cut_word : {at : ℕ} {text rest : List ℕ} {w : Word} {ws : List Placed} → Starts text w rest → Cuts (at + length (bytes_of w)) rest ws → Cuts at text ((w, at) ∷ ws)

-- every line has exactly one cut
abbrev pub OneCut : Type 0
OneCut = (line : List ℕ) → (ws : List Placed) × Cuts 0 line ws × ((vs : List Placed) → Cuts 0 line vs → vs ≡ ws)
