-- Readings of grammars with the same content agree. Assumes nothing.
use Rattle.std.proofs.Common.{◌≡◌, ℕ, ◌+◌, ◌<◌, Bool, true, false, ◌↔◌, List, [], ◌∷◌, map, length, Ok, Err, Result, sym, refl, ap, ◌∙◌, subst, arith}
use Rattle.grammar.specs.declared.refusals.ReadingRefusal.{ReadingRefusal}
use Rattle.grammar.specs.Grammar.{Grammar}
use Rattle.theory.specs.Claims.{Viable}
use Rattle.scales.specs.Scales.{Scale, SemiringLaws}
use Rattle.score_theory.specs.Scores.{Score, product}
use Rattle.score_theory.proofs.SameTotals.{one_total}
use Rattle.reading.specs.declared.reading.Reading.{Reading}
use Rattle.reading.specs.Calls.{Puts}
use Rattle.reading.specs.Readings.{words, grammar_of, Sees, Looked, ScoreCause, chart_too_short, table_too_short, Scored}
use Rattle.sameness.specs.Sames.{Same}
use Rattle.sameness.proofs.Equivalence.{same_reading, more_reading}
use Rattle.sameness.proofs.Scoring.{same_scores}
use Rattle.agreement.specs.declared.call.Call.TheVariants.{Put as put_call}
use Rattle.agreement.specs.Histories.{Plain, changes, PlainlyPlayed, put_step, played_none, played_more, Stands}
use Rattle.agreement.specs.Agreement.{Refuses, PutsAgree, LooksAlike, TableLong, OneScore, Agree, AllTaken, Agreement}
use Rattle.agreement.proofs.Fixing.{same_put, refused_when, taken_too}
use Rattle.agreement.proofs.Working.{formed, Ready, puts_by, put_ready, history_works, ready, one_working}

-- words have one score
score_once : {S : Type 0} (s : Scale S) → SemiringLaws s → (g : Grammar) (ws : List ℕ) (v u : S) → Score s g ws v → Score s g ws u → v ≡ u
score_once s laws g ws v u x y =
    x.is
    ∙ one_total _ _ s.none s.plus (record { neutral = laws.plus_none; comm = laws.plus_comm; assoc = laws.plus_assoc }) (product s g) x.trees y.trees x.all.once y.all.once
    (λ t. (λ m. (y.all.each t).1 ((x.all.each t).0 m), λ m. (x.all.each t).1 ((y.all.each t).0 m)))
    ∙ sym y.is

not_both : {A B : Type 0} → A ↔ B → (¬ A) ↔ (¬ B)
not_both e = (λ n b. n (e.1 b), λ n a. n (e.0 a))

onward : {A B C : Type 0} → A ↔ B → B ↔ C → A ↔ C
onward e f = (λ a. f.0 (e.0 a), λ c. e.1 (f.1 c))

turned : {A B : Type 0} → A ↔ B → B ↔ A
turned x = (x.1, x.0)

refuses : {g : Grammar} (r : Reading) → Ready g r → length (words r) < 48 → (kind : ℕ) → Refuses r kind g
refuses r s room kind a after p = refused_when (words r) kind room a (words after) (puts_by r after kind a p s)

puts_agree : (r q : Reading) → Ready (grammar_of r) r → Ready (grammar_of q) q → Same (grammar_of r) (grammar_of q) → words r ≡ words q → length (words r) < 48 → (kind : ℕ) → PutsAgree r q kind
puts_agree r q s t same e room kind = record {
  here = refuses r s room kind;
  here_other = λ a after p. onward (refuses r s room kind a after p) (not_both (viable (words r)));
  there = refuses q t there_room kind;
  there_other = λ a after p. onward (refuses q t there_room kind a after p) (not_both (turned (viable (words q))));
  same = λ a b after after' p p'.
      (same_put (words r) kind (viable (words r)) a b (words after) (words after') (puts_by r after kind a p s)
      (subst (λ w. Puts (grammar_of q) w kind b (words after')) (sym e) (puts_by q after' kind b p' t))
      ).0;
}
  where
    there_room : length (words q) < 48
    there_room = subst (λ w. length w < 48) e room

    viable : (ws : List ℕ) → Viable (grammar_of r) ws kind ↔ Viable (grammar_of q) ws kind
    viable ws = (same_reading (grammar_of r) (grammar_of q) (formed r) (formed q) same).viables ws kind

same_flag : (b c : Bool) → (b ≡ true) ↔ (c ≡ true) → b ≡ c
same_flag true c e = sym (e.0 refl)
same_flag false true e = e.1 refl
same_flag false false e = refl

looks_agree :
    (r q : Reading) →
    Ready (grammar_of r) r →
    Ready (grammar_of q) q →
    Same (grammar_of r) (grammar_of q) →
    words r ≡ words q →
    (a b : Result (Bool × ℕ) ReadingRefusal) →
    Looked r a →
    Looked q b →
    LooksAlike a b
looks_agree r q s t same e (Err x) b l m = absurd (l.0 s.long)
looks_agree r q s t same e (Ok x) (Err y) l m = absurd (m.0 t.long)
looks_agree r q s t same e (Ok x) (Ok y) l m =
    let both = same_reading (grammar_of r) (grammar_of q) (formed r) (formed q) same in
    let here = l.1 s.marks in
    let there = subst (λ w. Sees (grammar_of q) w y.0 y.1) (sym e) (m.1 t.marks) in (
      same_flag x.0 y.0 (onward here.whole (onward (both.sentences (words r)) (turned there.whole))),
      λ b small. onward (here.next b small) (onward (second (both.viables (words r) (16 + b))) (turned (there.next b small))),
    )
  where
    second : {X A B : Type 0} → A ↔ B → (X × A) ↔ (X × B)
    second x = (λ h. (h.0, x.0 h.1), λ h. (h.0, x.1 h.1))

-- a ready reading with a table that is long enough refuses no score
no_cause : {g : Grammar} (r : Reading) (entries : ℕ) → Ready g r → TableLong r entries → {n : ℕ} → ¬ ScoreCause r entries n
no_cause r entries s long (chart_too_short c) = c s.long
no_cause r entries s long (table_too_short c) = omega arith

module _ {S : Type 0} (s : Scale S) (laws : SemiringLaws s) where
  has_score : {g : Grammar} (r : Reading) → Ready g r → (before after : List S) (a : Result S ReadingRefusal) → Scored s r before a after → TableLong r (length before) → (v : S) × (a ≡ Ok v) × Score s (grammar_of r) (words r) v
  has_score r t before after (Ok v) x long = (v, refl, x.1.0)
  has_score r t before after (Err e) x long = absurd (no_cause r (length before) t long x.0)

  scores_agree :
      (r q : Reading) →
      Ready (grammar_of r) r →
      Ready (grammar_of q) q →
      Same (grammar_of r) (grammar_of q) →
      words r ≡ words q →
      (before after before' after' : List S) (a b : Result S ReadingRefusal) →
      Scored s r before a after →
      Scored s q before' b after' →
      TableLong r (length before) →
      TableLong q (length before') →
      OneScore s r a b
  scores_agree r q t u same e before after before' after' a b x y long long' =
      let h = has_score r t before after a x long in
      let k = has_score q u before' after' b y long' in
      let there : Score s (grammar_of q) (words r) k.0 = subst (λ w. Score s (grammar_of q) w k.0) (sym e) k.2 in
      let home : Score s (grammar_of r) (words r) k.0 = (same_scores s (grammar_of r) (grammar_of q) (formed r) (formed q) same (words r) k.0).1 there in
      let one : h.0 ≡ k.0 = score_once s laws (grammar_of r) (words r) h.0 k.0 h.2 home in
      (h.0, h.1, k.1 ∙ ap Ok (sym one), h.2)

  agrees : (r q : Reading) → Stands r → Stands q → Same (grammar_of r) (grammar_of q) → words r ≡ words q → Agree s r q
  agrees r q x y same e = record { puts = puts_agree r q (ready r x) (ready q y) same e; looks = looks_agree r q (ready r x) (ready q y) same e; scores = scores_agree r q (ready r x) (ready q y) same e }

-- a row of kinds that is taken in g is taken in h
module _ {g h : Grammar} (to : (ws : List ℕ) (kind : ℕ) → Viable g ws kind → Viable h ws kind) where
  row_taken :
      (kinds : List ℕ) (r q : Reading) {xs ys : List Plain} {r' q' : Reading} →
      Ready g r →
      Ready h q →
      words r ≡ words q →
      PlainlyPlayed r (map put_call kinds) xs r' →
      PlainlyPlayed q (map put_call kinds) ys q' →
      AllTaken (changes xs) →
      AllTaken (changes ys)
  row_taken [] r q s t e played_none played_none all = all
  row_taken (kind ∷ kinds) r q s t e (played_more {q = r₁} (put_step {a = a} p) m) (played_more {q = q₁} (put_step {a = b} p') m') all =
      let x = puts_by r r₁ kind a p s in
      let y = subst (λ w. Puts h w kind b (words q₁)) (sym e) (puts_by q q₁ kind b p' t) in
      let both = taken_too (words r) kind (to (words r) kind) a b (words r₁) (words q₁) x y all.0 in
      (both.0, row_taken kinds r₁ q₁ (put_ready r r₁ kind a p s) (put_ready q q₁ kind b p' t) both.1 m m' all.1)

pub agreement : {S : Type 0} (s : Scale S) → SemiringLaws s → Agreement s
agreement s laws = record {
  answers = λ cs xs r h. (history_works h).0;
  one_answer = λ g h fg fh same cs xs ys ws us x y. one_working (same_reading g h fg fh same).viables x refl y;
  same_answers = λ cs xs ys r q h k same. one_working (same_reading (grammar_of r) (grammar_of q) (formed r) (formed q) same).viables (history_works h).0 refl (history_works k).0;
  agree = agrees s laws;
  more = λ r q x y more none none' kinds xs ys m m' all.
      row_taken (more_reading (grammar_of r) (grammar_of q) (formed r) more).viables kinds r q (ready r x) (ready q y) (none ∙ sym none') m.1 m'.1 all;
}
