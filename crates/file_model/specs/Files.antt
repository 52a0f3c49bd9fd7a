-- What a text says as a grammar file, and what a spelled grammar is written as. Assumes nothing.
use Rattle.std.specs.Prelude.{◌≡◌, ℕ, suc, ◌+◌, ◌<◌, ◌≤◌, ◌⊎◌, List, [], ◌∷◌, ◌++◌, map, length, take, drop, Ok, Err, Result}
use Rattle.std.specs.List.{flat_map}
use Rattle.grammar.specs.declared.refusals.DraftRefusal.{DraftRefusal}
use Rattle.grammar.specs.declared.refusals.FileRefusal.{FileRefusal}
use Rattle.grammar.specs.declared.refusals.FileRefusal.TheVariants.{Mark, Form, Declared, Undeclared, ShortText}
use Rattle.grammar.specs.declared.refusals.Refusal.{Refusal}
use Rattle.grammar.specs.declared.refusals.Refusal.TheVariants.{Draft, File}
use Rattle.grammar.specs.Grammar.{Production, Rule, empty_grammar, with_start}
use Rattle.draft.specs.Calls.{AddsProduction, AddsRule}
use Rattle.syntax.specs.Syntax.{Spelling, Line, word_line, production_line, rule_line, HasForm, mark_line, start_line, render}
use Rattle.syntax.specs.Free.{FreeOf}
use Rattle.file_model.specs.declared.fault.Fault.{Fault}
use Rattle.file_model.specs.Spelled.{Spelled, Declares, RightSide, Undeclared as SomeUndeclared, Unspelled, SoundSpelled, written}

abbrev pub fault : Refusal → ℕ → Fault
fault refusal line = record { refusal = refusal; line = line }

-- an answer without its value
abbrev pub outcome : {V E : Type 0} → (E → Refusal) → Result V E → Result (Unit {0}) Refusal
outcome layer (Ok v) = Ok tt
outcome layer (Err e) = Err (layer e)

-- what a line of a form does: spellings are looked at first, then the draft answers
abbrev pub Does : Spelled → Line → Result (Unit {0}) Refusal → Spelled → Type 0
Does s (word_line w) r t = (a : Result ℕ FileRefusal) × Declares s.spellings w a t.spellings × (t.draft ≡ s.draft) × (r ≡ outcome File a)
Does s (production_line left symbols price) r t =
    (SomeUndeclared s.spellings symbols × (r ≡ Err (File Undeclared)) × (t ≡ s))
    ⊎ ((right : List ℕ) × (a : Result ℕ DraftRefusal) × RightSide s.spellings symbols right
    × AddsProduction s.draft (record { left = left; right = right; price = price }) a t.draft × (t.spellings ≡ s.spellings) × (r ≡ outcome Draft a))
Does s (rule_line upper relation lower) r t =
    (a : Result ℕ DraftRefusal) × AddsRule s.draft upper relation lower a t.draft × (t.spellings ≡ s.spellings) × (r ≡ outcome Draft a)

-- what a line does: that of its form, or a refusal where it has none
pub data ReadsLine (s : Spelled) (line : List ℕ) (r : Result (Unit {0}) Refusal) (t : Spelled) : Type 0 where
  of_form : (form : Line) → HasForm line form → Does s form r t → ReadsLine s line r t
  of_no_form : ((form : Line) → ¬ HasForm line form) → r ≡ Err (File Form) → t ≡ s → ReadsLine s line r t

-- the text is the line, its end, byte 10, and the rest
pub record LineOf (text line rest : List ℕ) : Type 0 where
  pub free : FreeOf 10 line
  pub is : text ≡ line ++ 10 ∷ rest

-- reading the text, whose first line has the number n, into s answers r and leaves t; an answer without fault is the version
pub data ReadsFrom : ℕ → Spelled → List ℕ → Result ℕ Fault → Spelled → Type 0 where
  reads_end : {n : ℕ} {s : Spelled} → ReadsFrom n s [] (Ok 1) s
  reads_cut : {n : ℕ} {s : Spelled} {text : List ℕ} → (¬ (text ≡ [])) → FreeOf 10 text → ReadsFrom n s text (Err (fault (File Form) n)) s
  reads_on :
      {n : ℕ} {s t u : Spelled} {text line rest : List ℕ} {r : Result ℕ Fault} →
      LineOf text line rest →
      ReadsLine s line (Ok tt) t →
      ReadsFrom (suc n) t rest r u →
      ReadsFrom n s text r u
  reads_fault :
      {n : ℕ} {s t : Spelled} {text line rest : List ℕ} {e : Refusal} → LineOf text line rest → ReadsLine s line (Err e) t → ReadsFrom n s text (Err (fault e n)) t

abbrev pub empty_spelled : Spelled
empty_spelled = record { draft = empty_grammar; spellings = [] }

-- with a start symbol, and nothing else
abbrev pub started : ℕ → Spelled
started s = record { draft = with_start empty_grammar s; spellings = [] }

-- reading a whole text answers r and leaves t
pub data Reads (text : List ℕ) : Result ℕ Fault → Spelled → Type 0 where
  too_long : 16384 < length text → Reads text (Err (fault (File Form) 0)) empty_spelled
  no_mark : length text ≤ 16384 → ((rest : List ℕ) → ¬ LineOf text mark_line rest) → Reads text (Err (fault (File Mark) 1)) empty_spelled
  no_start :
      {rest : List ℕ} →
      length text ≤ 16384 →
      LineOf text mark_line rest →
      ((symbol : ℕ) (body : List ℕ) → symbol < 16 → ¬ LineOf rest (start_line symbol) body) →
      Reads text (Err (fault (File Form) 2)) empty_spelled
  from_start :
      {rest body : List ℕ} {symbol : ℕ} {r : Result ℕ Fault} {t : Spelled} →
      length text ≤ 16384 →
      LineOf text mark_line rest →
      symbol < 16 →
      LineOf rest (start_line symbol) body →
      ReadsFrom 3 (started symbol) body r t →
      Reads text r t

-- the forms of the lines behind the second, in order of acceptance
abbrev pub production_form : List Spelling → Production → Line
production_form ws p = production_line p.left (map (written ws) p.right) p.price

abbrev pub rule_form : Rule → Line
rule_form r = rule_line (r.upper + 1) r.relation (r.lower + 1)

abbrev pub forms : Spelled → List Line
forms s = map word_line s.spellings ++ (map (production_form s.spellings) s.draft.productions ++ map rule_form s.draft.rules)

-- a line with its end
abbrev pub ended : List ℕ → List ℕ
ended line = line ++ 10 ∷ []

-- the lines of the forms, each with its end
abbrev pub rendered : List Line → List ℕ
rendered fs = flat_map (λ f. ended (render f)) fs

-- the text of a spelled grammar
abbrev pub text_of : Spelled → List ℕ
text_of s = ended mark_line ++ (ended (start_line s.draft.start) ++ rendered (forms s))

-- the answer to writing: 20 before 22; a refusal 20 leaves the text, a refusal 22 leaves the first bytes
abbrev pub WritesFile : Spelled → List ℕ → Result ℕ FileRefusal → List ℕ → Type 0
WritesFile s before (Ok n) after = (¬ Unspelled s) × (n ≡ length (text_of s)) × (n ≤ length before) × (after ≡ text_of s ++ drop n before)
WritesFile s before (Err Undeclared) after = Unspelled s × (after ≡ before)
WritesFile s before (Err ShortText) after = (¬ Unspelled s) × (length before < length (text_of s)) × (after ≡ take (length before) (text_of s))
WritesFile s before (Err Mark) after = ⊥
WritesFile s before (Err Form) after = ⊥
WritesFile s before (Err Declared) after = ⊥

-- reading the text gives s back, and nothing else
pub record ReadBack (text : List ℕ) (s : Spelled) : Type 0 where
  pub back : Reads text (Ok 1) s
  pub only : (r : Result ℕ Fault) (t : Spelled) → Reads text r t → (r ≡ Ok 1) × (t ≡ s)

-- where a file was written, its bytes are read back
abbrev pub WritesBack : Spelled → Result ℕ FileRefusal → List ℕ → Type 0
WritesBack s (Ok n) after = ReadBack (take n after) s
WritesBack s (Err e) after = Unit {0}

-- every text has at most one reading
abbrev pub UniqueReadings : Type 0
UniqueReadings = (text : List ℕ) (r r' : Result ℕ Fault) (t t' : Spelled) → Reads text r t → Reads text r' t' → (r ≡ r') × (t ≡ t')

-- a sound spelled grammar without unspelled kinds is read back from its text
abbrev pub WrittenIsReadBack : Type 0
WrittenIsReadBack = (s : Spelled) → SoundSpelled s → (¬ Unspelled s) → ReadBack (text_of s) s
