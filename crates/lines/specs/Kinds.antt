-- The kinds of words. Assumes nothing.
use Rattle.std.specs.Prelude.{◌≡◌, ℕ, ◌+◌, ◌⊎◌, List, Some, None, Option}
use Rattle.syntax.specs.Syntax.{Spelling, literal, name, num}
use Rattle.file_model.specs.Spelled.{First, Declared}
use Rattle.lines.specs.Cuts.{Word, name as name_word, number as number_word, mark as mark_word, stray as stray_word, bytes_of}

-- it is no stray byte
abbrev pub IsWord : Word → Type 0
IsWord (name_word bs) = Unit {0}
IsWord (number_word bs) = Unit {0}
IsWord (mark_word bs) = Unit {0}
IsWord (stray_word bs) = ⊥

-- the spelling is that of the kind
abbrev pub KindBy : List Spelling → Spelling → ℕ → Type 0
KindBy ss s kind = (k : ℕ) × First ss s k × (kind ≡ 16 + k)

-- the kind of a word: that of the literal with its bytes, else that of NUM for a number, else that of NAME for a name
pub data KindOf (ss : List Spelling) : Word → ℕ → Type 0 where
  by_literal : {w : Word} {kind : ℕ} → IsWord w → KindBy ss (literal (bytes_of w)) kind → KindOf ss w kind
  by_number : {bs : List ℕ} {kind : ℕ} → (¬ Declared ss (literal bs)) → KindBy ss num kind → KindOf ss (number_word bs) kind
  by_name : {bs : List ℕ} {kind : ℕ} → (¬ Declared ss (literal bs)) → KindBy ss name kind → KindOf ss (name_word bs) kind

-- the word has no kind
abbrev pub NoKind : List Spelling → Word → Type 0
NoKind ss w = (kind : ℕ) → ¬ KindOf ss w kind

-- the kind of a word, or that it has none
abbrev pub FindsKind : List Spelling → Word → Option ℕ → Type 0
FindsKind ss w (Some kind) = KindOf ss w kind
FindsKind ss w None = NoKind ss w

-- the kind of the literal with a run's bytes, else that of the spelling for any such run, or that there is none
abbrev pub FindsRunKind : List Spelling → List ℕ → Spelling → Option ℕ → Type 0
FindsRunKind ss bs any (Some kind) = KindBy ss (literal bs) kind ⊎ ((¬ Declared ss (literal bs)) × KindBy ss any kind)
FindsRunKind ss bs any None = (¬ Declared ss (literal bs)) × (¬ Declared ss any)
