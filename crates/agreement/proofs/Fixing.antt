-- The grammar, the words and the call fix the answer. Assumes nothing.
use Rattle.std.proofs.Common.{◌≡◌, ℕ, ◌<◌, cond, eqb, ◌↔◌, List, [], ◌∷◌, ◌++◌, length, Ok, Err, Result, sym, refl, ap, ◌∙◌, arith}
use Rattle.std.proofs.lemmas.List.{same_from_push}
use Rattle.grammar.specs.declared.refusals.ReadingRefusal.{ReadingRefusal}
use Rattle.grammar.specs.declared.refusals.ReadingRefusal.TheVariants.{LineFull, NoKind, NothingBegins, NoWord, NoSentence, ShortChart, ShortListing, ShortTable}
use Rattle.grammar.specs.declared.refusals.Refusal.TheVariants.{Reading as Layer}
use Rattle.grammar.specs.Grammar.{Grammar}
use Rattle.grammar.specs.Refusals.{number, Answered}
use Rattle.theory.specs.Claims.{Viable}
use Rattle.reading.specs.Calls.{Puts, TakesBack, PutCause, line_full, no_kind, nothing_begins}
use Rattle.reading.specs.Readings.{Refused}
use Rattle.theory.proofs.Leaves.{viable_kind}

-- the number tells the refusal
abbrev numbered : ℕ → ReadingRefusal
numbered n = cond (eqb n 9) LineFull (cond (eqb n 10) NoKind (cond (eqb n 11) NothingBegins (cond (eqb n 12) NoWord (cond (eqb n 13) NoSentence (cond (eqb n 14) ShortChart (cond (eqb n 15) ShortListing ShortTable))))))

again : (e : ReadingRefusal) → numbered (number (Layer e)) ≡ e
again LineFull = refl
again NoKind = refl
again NothingBegins = refl
again NoWord = refl
again NoSentence = refl
again ShortChart = refl
again ShortListing = refl
again ShortTable = refl

one_refusal : (e f : ReadingRefusal) → number (Layer e) ≡ number (Layer f) → e ≡ f
one_refusal e f same = sym (again e) ∙ ap numbered same ∙ again f

-- causes that apply alike, and what is done once, give the same answer
module _ {W : Type 0} {C D : ℕ → Type 0} (to : (n : ℕ) → C n → D n) (back : (n : ℕ) → D n → C n) {done : ℕ → W → Type 0} (once : (n m : ℕ) (u v : W) → done n u → done m v → (n ≡ m) × (u ≡ v)) where
  pub same_answer : (w : W) (a b : Result ℕ ReadingRefusal) (u v : W) → Answered Layer C done w a u → Answered Layer D done w b v → (a ≡ b) × (u ≡ v)
  same_answer w (Ok n) (Ok m) u v x y = let e = once n m u v x.1 y.1 in (ap Ok e.0, e.1)
  same_answer w (Ok n) (Err f) u v x y = absurd (x.0 (number (Layer f)) (back (number (Layer f)) y.0))
  same_answer w (Err e) (Ok m) u v x y = absurd (y.0 (number (Layer e)) (to (number (Layer e)) x.0))
  same_answer w (Err e) (Err f) u v x y =
      let no_less : ¬ (number (Layer e) < number (Layer f)) = λ l. y.1 (number (Layer e)) l (to (number (Layer e)) x.0) in
      let no_more : ¬ (number (Layer f) < number (Layer e)) = λ l. x.1 (number (Layer f)) l (back (number (Layer f)) y.0) in
      let same : number (Layer e) ≡ number (Layer f) = omega arith in
      (ap Err (one_refusal e f same), x.2 ∙ sym y.2)

pub cause_moves : {g h : Grammar} {ws : List ℕ} {kind n : ℕ} → (Viable h ws kind → Viable g ws kind) → PutCause g ws kind n → PutCause h ws kind n
cause_moves from (line_full c) = line_full c
cause_moves from (no_kind c) = no_kind c
cause_moves from (nothing_begins c) = nothing_begins (λ v. c (from v))

pub same_put : {g h : Grammar} (ws : List ℕ) (kind : ℕ) → Viable g ws kind ↔ Viable h ws kind → (a b : Result ℕ ReadingRefusal) (us vs : List ℕ) → Puts g ws kind a us → Puts h ws kind b vs → (a ≡ b) × (us ≡ vs)
same_put ws kind e a b us vs x y =
    same_answer (λ n. cause_moves e.1) (λ n. cause_moves e.0) (λ n m u v p q. (p.0 ∙ ap length (p.1 ∙ sym q.1) ∙ sym q.0, p.1 ∙ sym q.1)) ws a b us vs x y

abbrev Gone : List ℕ → ℕ → List ℕ → Type 0
Gone ws n us = (n ≡ length us) × ((kind : ℕ) × (ws ≡ us ++ kind ∷ []))

gone_once : (ws : List ℕ) (n m : ℕ) (us vs : List ℕ) → Gone ws n us → Gone ws m vs → (n ≡ m) × (us ≡ vs)
gone_once ws n m us vs p q =
    let e = same_from_push us vs p.1.0 q.1.0 (sym p.1.1 ∙ q.1.1) in
    (p.0 ∙ ap length e.0 ∙ sym q.0, e.0)

pub same_back : (ws : List ℕ) (a b : Result ℕ ReadingRefusal) (us vs : List ℕ) → TakesBack ws a us → TakesBack ws b vs → (a ≡ b) × (us ≡ vs)
same_back ws a b us vs x y = same_answer (λ n c. c) (λ n c. c) (gone_once ws) ws a b us vs x y

never_begins : {g : Grammar} {ws : List ℕ} {kind n : ℕ} → length ws < 48 → PutCause g ws kind n → ¬ Viable g ws kind
never_begins room (line_full c) v = absurd (omega arith)
never_begins {ws = ws} {kind = kind} room (no_kind c) v = c (viable_kind ws kind v)
never_begins room (nothing_begins c) v = c v

-- where there is room, a put is refused exactly if nothing begins so
pub refused_when : {g : Grammar} (ws : List ℕ) (kind : ℕ) → length ws < 48 → (a : Result ℕ ReadingRefusal) (us : List ℕ) → Puts g ws kind a us → Refused a ↔ (¬ Viable g ws kind)
refused_when ws kind room (Ok n) us x = (λ r. absurd r, λ never. absurd (x.0 11 (nothing_begins never)))
refused_when ws kind room (Err e) us x = (λ r. never_begins room x.0, λ never. tt)

-- what is taken in one grammar is taken in another where as much begins
pub taken_too : {g h : Grammar} (ws : List ℕ) (kind : ℕ) → (Viable g ws kind → Viable h ws kind) → (a b : Result ℕ ReadingRefusal) (us vs : List ℕ) → Puts g ws kind a us → Puts h ws kind b vs → (¬ Refused a) → (¬ Refused b) × (us ≡ vs)
taken_too ws kind to (Ok n) (Ok m) us vs x y taken = (λ r. r, x.1.1 ∙ sym y.1.1)
taken_too ws kind to (Ok n) (Err f) us vs x y taken = absurd (x.0 (number (Layer f)) (cause_moves to y.0))
taken_too ws kind to (Err e) b us vs x y taken = absurd (taken tt)
