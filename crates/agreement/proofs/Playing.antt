-- Steps and calls one after the other. Assumes nothing.
use Rattle.std.proofs.Common.{◌≡◌, ℕ, ◌+◌, ◌<◌, Bool, List, [], ◌∷◌, ◌++◌, map, length, get_or, take, drop, set, Ok, Err, Result, sym, ap, ◌∙◌, subst, arith}
use Rattle.std.proofs.lemmas.List.{take_more, take_more_set, drop-set-lt, drop-drop}
use Rattle.grammar.specs.declared.refusals.ReadingRefusal.{ReadingRefusal}
use Rattle.scales.specs.Scales.{Scale}
use Rattle.reading.specs.declared.reading.Reading.{Reading}
use Rattle.reading.specs.Readings.{Put, TakenFromEnd, Looked, Scored, without_value}
use Rattle.agreement.specs.declared.call.Call.{Call}
use Rattle.agreement.specs.declared.call.Call.TheVariants.{Put as put_call, TakeBack as back_call, Look as look_call, List as list_call, Score as score_call}
use Rattle.agreement.specs.declared.answer.Answer.{Answer}
use Rattle.agreement.specs.declared.answer.Answer.TheVariants.{Put as put_answer, TakenBack as back_answer, Looked as look_answer, Listed as list_answer, Scored as score_answer}
use Rattle.agreement.specs.Histories.{Plain, plain, Lent, ListsInto, ScoresInto, AnyScore, PlainlyPlayed, Step, put_step, back_step, look_step, list_step, score_step, Played, played_none, played_more, History}

-- the call is known by an equation
module _ {V B : Type 0} {Lists : Reading → B → Result ℕ ReadingRefusal → B → Type 0} {Scores : Reading → B → Result V ReadingRefusal → B → Type 0} (r : Reading) (b : B) (call : Call) where
  pub put_made : (q : Reading) (kind : ℕ) (a : Result ℕ ReadingRefusal) → call ≡ put_call kind → Put r kind a q → Step Lists Scores r b call (put_answer a) q b
  put_made q kind a e p = subst (λ x. Step Lists Scores r b x (put_answer a) q b) (sym e) (put_step p)

  pub back_made : (q : Reading) (a : Result ℕ ReadingRefusal) → call ≡ back_call → TakenFromEnd r a q → Step Lists Scores r b call (back_answer a) q b
  back_made q a e p = subst (λ x. Step Lists Scores r b x (back_answer a) q b) (sym e) (back_step p)

  pub look_made : (a : Result (Bool × ℕ) ReadingRefusal) → call ≡ look_call → Looked r a → Step Lists Scores r b call (look_answer a) r b
  look_made a e p = subst (λ x. Step Lists Scores r b x (look_answer a) r b) (sym e) (look_step p)

  pub list_made : (c : B) (a : Result ℕ ReadingRefusal) → call ≡ list_call → Lists r b a c → Step Lists Scores r b call (list_answer a) r c
  list_made c a e p = subst (λ x. Step Lists Scores r b x (list_answer a) r c) (sym e) (list_step p)

  pub score_made : (c : B) (a : Result V ReadingRefusal) → call ≡ score_call → Scores r b a c → Step Lists Scores r b call (score_answer a) r c
  score_made c a e p = subst (λ x. Step Lists Scores r b x (score_answer a) r c) (sym e) (score_step p)

module _ {V B : Type 0} {Lists : Reading → B → Result ℕ ReadingRefusal → B → Type 0} {Scores : Reading → B → Result V ReadingRefusal → B → Type 0} where
  -- one call more
  pub played_push :
      {r q t : Reading} {b c e : B} {cs : List Call} {xs : List (Answer V)} {call : Call} {a : Answer V} →
      Played Lists Scores r b cs xs q c →
      Step Lists Scores q c call a t e →
      Played Lists Scores r b (cs ++ call ∷ []) (xs ++ a ∷ []) t e
  played_push played_none s = played_more s played_none
  played_push (played_more p m) s = played_more p (played_push m s)

  pub played_append :
      {r q t : Reading} {b c e : B} {cs ds : List Call} {xs ys : List (Answer V)} →
      Played Lists Scores r b cs xs q c →
      Played Lists Scores q c ds ys t e →
      Played Lists Scores r b (cs ++ ds) (xs ++ ys) t e
  played_append played_none n = n
  played_append (played_more p m) n = played_more p (played_append m n)

  -- one call more of a list of calls, and one answer more in a list of answers
  pub played_next :
      (r q t : Reading) (b c e : B) (calls : List Call) (answers : List (Answer V)) (i : ℕ) (d : Call) (a : Answer V) →
      i < length calls →
      i < length answers →
      Played Lists Scores r b (take i calls) (take i answers) q c →
      Step Lists Scores q c (get_or calls i d) a t e →
      Played Lists Scores r b (take (i + 1) calls) (take (i + 1) (set answers i a)) t e
  played_next r q t b c e calls answers i d a l m p s =
      subst (λ cs. Played Lists Scores r b cs (take (i + 1) (set answers i a)) t e) (sym (take_more calls i d l))
      (subst (λ xs. Played Lists Scores r b (take i calls ++ get_or calls i d ∷ []) xs t e) (sym (take_more_set answers i a m)) (played_push p s))

-- a score on a scale, where the value is left out
any_score : {S : Type 0} (s : Scale S) (r : Reading) (before after : List S) (a : Result S ReadingRefusal) → Scored s r before a after → AnyScore r tt (without_value a) tt
any_score s r before after (Ok v) x = (length before, x.0)
any_score s r before after (Err e) x = (length before, (x.0, x.1))

pub plainly : {S : Type 0} (s : Scale S) {r q : Reading} {b c : Lent S} {cs : List Call} {xs : List (Answer S)} → Played ListsInto (ScoresInto s) r b cs xs q c → PlainlyPlayed r cs (map plain xs) q
plainly s played_none = played_none
plainly s (played_more (put_step p) m) = played_more (put_step p) (plainly s m)
plainly s (played_more (back_step p) m) = played_more (back_step p) (plainly s m)
plainly s (played_more (look_step p) m) = played_more (look_step p) (plainly s m)
plainly s (played_more {b = b} {c = c} (list_step p) m) = played_more (list_step (b.records, c.records, p.0)) (plainly s m)
plainly s (played_more {r = r} {b = b} {c = c} (score_step {a = a} p) m) = played_more (score_step (any_score s r b.table c.table a p.0)) (plainly s m)

-- a history goes on
pub goes_on :
    {S : Type 0} (s : Scale S) {r q : Reading} {b c : Lent S} {cs ds : List Call} {xs : List Plain} {ys : List (Answer S)} →
    History cs xs r →
    Played ListsInto (ScoresInto s) r b ds ys q c →
    History (cs ++ ds) (xs ++ map plain ys) q
goes_on s h m = record { chart = h.chart; first = h.first; long = h.long; opened = h.opened; played = played_append h.played (plainly s m) }

-- what stands later is left
pub later_kept : {X : Type 0} (before after : List X) (i : ℕ) (x : X) → drop i after ≡ drop i before → drop (i + 1) (set after i x) ≡ drop (i + 1) before
later_kept before after i x e = drop-set-lt (i + 1) after i x (omega arith) ∙ sym (drop-drop 1 i after) ∙ ap (drop 1) e ∙ drop-drop 1 i before
