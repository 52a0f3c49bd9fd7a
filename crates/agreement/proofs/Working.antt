-- The chart of a reading with a history marks the words that stand, and its calls are answered as they work out. Assumes nothing.
use Rattle.std.proofs.Common.{◌≡◌, ℕ, ◌↔◌, List, [], ◌∷◌, Result, sym, refl, ap, ◌∙◌, subst, arith}
use Rattle.grammar.specs.declared.refusals.ReadingRefusal.{ReadingRefusal}
use Rattle.grammar.specs.Grammar.{Grammar}
use Rattle.grammar.specs.Sound.{WellFormed}
use Rattle.theory.specs.Claims.{Viable}
use Rattle.draft.specs.Sealed.{sealed_model}
use Rattle.draft.proofs.Accepting.{well_formed}
use Rattle.reading.specs.declared.reading.Reading.{Reading}
use Rattle.reading.specs.Calls.{Puts, TakesBack}
use Rattle.reading.specs.Readings.{words, cells, grammar_of, Long, Marks, Changes, Put, Opened}
use Rattle.agreement.specs.declared.call.Call.{Call}
use Rattle.agreement.specs.Histories.{Plain, changes, PlainlyPlayed, put_step, back_step, look_step, list_step, score_step, played_none, played_more, History, Stands, WorksOut, no_call, put_first, back_first, look_first, list_first, score_first, WorkedOut}
use Rattle.agreement.proofs.Fixing.{same_put, same_back}

-- a sealed grammar is well-formed
pub formed : (r : Reading) → WellFormed (grammar_of r)
formed r = well_formed r.grammar.now.draft

-- a reading of g on a long chart that marks the words that stand
pub record Ready (g : Grammar) (r : Reading) : Type 0 where
  pub long : Long (cells r)
  pub marks : Marks r
  pub grammar : grammar_of r ≡ g

changed : {g : Grammar} {answers : Result ℕ ReadingRefusal → List ℕ → Type 0} (r q : Reading) (a : Result ℕ ReadingRefusal) → Changes answers r a q → Ready g r → Ready g q
changed r q a c s = record {
  long = let z = c.kept.size in let l = s.long in omega arith;
  marks = c.marks s.long s.marks;
  grammar = ap sealed_model c.kept.grammar ∙ s.grammar;
}

pub puts_by : {g : Grammar} (r q : Reading) (kind : ℕ) (a : Result ℕ ReadingRefusal) → Put r kind a q → Ready g r → Puts g (words r) kind a (words q)
puts_by r q kind a p s = subst (λ x. Puts x (words r) kind a (words q)) s.grammar (p.answered s.long s.marks)

pub put_ready : {g : Grammar} (r q : Reading) (kind : ℕ) (a : Result ℕ ReadingRefusal) → Put r kind a q → Ready g r → Ready g q
put_ready r q kind a p s = changed r q a p s

pub works_out : {g : Grammar} {r q : Reading} {cs : List Call} {xs : List Plain} → PlainlyPlayed r cs xs q → Ready g r → WorksOut g (words r) cs (changes xs) (words q) × Ready g q
works_out played_none s = (no_call, s)
works_out (played_more {r = r} {q = t} (put_step {kind = kind} {a = a} p) m) s =
    let w = works_out m (changed r t a p s) in
    (put_first (puts_by r t kind a p s) w.0, w.1)
works_out (played_more {r = r} {q = t} (back_step {a = a} p) m) s =
    let w = works_out m (changed r t a p s) in
    (back_first (p.answered s.long s.marks) w.0, w.1)
works_out (played_more (look_step p) m) s = let w = works_out m s in (look_first w.0, w.1)
works_out (played_more (list_step p) m) s = let w = works_out m s in (list_first w.0, w.1)
works_out (played_more (score_step p) m) s = let w = works_out m s in (score_first w.0, w.1)

opened_ready : (chart : List ℕ) (r : Reading) → Long chart → Opened chart r → Ready (grammar_of r) r
opened_ready chart r long o = record { long = let z = o.size in omega arith; marks = o.marks long; grammar = refl }

pub history_works : {cs : List Call} {xs : List Plain} {r : Reading} → History cs xs r → WorkedOut (grammar_of r) cs (changes xs) (words r) × Ready (grammar_of r) r
history_works {cs} {xs} {r} h =
    let w = works_out h.played (opened_ready h.chart h.first h.long h.opened) in
    let e : grammar_of h.first ≡ grammar_of r = sym w.1.grammar in
    let a : WorksOut (grammar_of h.first) [] cs (changes xs) (words r) = subst (λ ws. WorksOut (grammar_of h.first) ws cs (changes xs) (words r)) h.opened.none w.0 in
    (subst (λ g. WorksOut g [] cs (changes xs) (words r)) e a, record { long = w.1.long; marks = w.1.marks; grammar = refl })

pub ready : (r : Reading) → Stands r → Ready (grammar_of r) r
ready r h = (history_works h.2).1

-- the same calls work out to the same
module _ {g h : Grammar} (e : (ws : List ℕ) (kind : ℕ) → Viable g ws kind ↔ Viable h ws kind) where
  pub one_working : {cs : List Call} {xs ys : List (Result ℕ ReadingRefusal)} {ws us vs ts : List ℕ} → WorksOut g ws cs xs vs → ws ≡ us → WorksOut h us cs ys ts → (xs ≡ ys) × (vs ≡ ts)
  one_working no_call same no_call = (refl, same)
  one_working (put_first {ws = ws} {us = ws'} {kind = kind} {a = a} {xs = xs} p m) same (put_first {us = us'} {a = b} {xs = ys} q n) =
      let x = same_put ws kind (e ws kind) a b ws' us' p (subst (λ w. Puts h w kind b us') (sym same) q) in
      let r = one_working m x.1 n in
      (ap (λ y. y ∷ xs) x.0 ∙ ap (λ l. b ∷ l) r.0, r.1)
  one_working (back_first {ws = ws} {us = ws'} {a = a} {xs = xs} p m) same (back_first {us = us'} {a = b} {xs = ys} q n) =
      let x = same_back ws a b ws' us' p (subst (λ w. TakesBack w b us') (sym same) q) in
      let r = one_working m x.1 n in
      (ap (λ y. y ∷ xs) x.0 ∙ ap (λ l. b ∷ l) r.0, r.1)
  one_working (look_first m) same (look_first n) = one_working m same n
  one_working (list_first m) same (list_first n) = one_working m same n
  one_working (score_first m) same (score_first n) = one_working m same n
