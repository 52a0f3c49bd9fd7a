-- Parts of the input, taken line by line. Assumes nothing.
use Rattle.std.proofs.Common.{◌≡◌, ℕ, ◌-◌, List, [], ◌∷◌, ◌++◌, length, Some, None, Bor, Option, sym, refl, ap, ◌∙◌, arith, append-nil, inr, subst}
use native.Mathlib.Decide.{dec_lt}
use Rattle.std.proofs.lemmas.List.{append_assoc, length-append, take_all, length-take, get_or_append_left, get_or-append_right}
use Rattle.syntax.specs.Free.{FreeOf}
use Rattle.std.specs.Io.KnownBytes.{Appends}
use Rattle.walk.specs.declared.session.Session.{Session}
use Rattle.walk.specs.declared.scores.LineReport.{LineReport}
use Rattle.walk.specs.Buffers.{held, kept, TakesOn}
use Rattle.walk.specs.Sessions.{Reported, Finished, Gathers, TakesPart, gathered, line_ended, Took, PartsJoin, written}
use Rattle.walk.specs.Verdicts.{line_report}
use Rattle.walk.proofs.Buffering.{kept_again}
use Rattle.walk.proofs.Writing.{none_appended, both_appended}

-- nothing but the buffer differs
pub record SameButBuffer (s t : Session) : Type 0 where
  pub grammar : t.grammar ≡ s.grammar
  pub spellings : t.spellings ≡ s.spellings
  pub chart : t.chart ≡ s.chart
  pub count : t.count ≡ s.count

module _ (s t : Session) (part : List ℕ) (same : SameButBuffer s t) where
  gathers : (more : List ℕ) → held t.buffer ≡ kept (held s.buffer ++ more) → Gathers s more t
  gathers more bytes = record { bytes = bytes; grammar = same.grammar; spellings = same.spellings; chart = same.chart; count = same.count }

  -- a line ends in the part
  pub took_line :
      (u v : Session) (rest : Bor (List ℕ)) (a b c : Option (List ℕ)) →
      TakesOn (held s.buffer) part (Some rest) (held t.buffer) →
      Reported t u a b →
      Took u rest.now v b c →
      Took s part v a c
  took_line u v rest a b c (line, l, bytes) (r, ends, out) (rs, h, more) =
      (r ∷ rs, line_ended l (gathers line bytes) ends h, both_appended a b c (line_report r ++ 10 ∷ []) (written rs) out more)

  -- none does
  pub took_rest : (a : Option (List ℕ)) → TakesOn (held s.buffer) part None (held t.buffer) → Took s part t a a
  took_rest a (free, bytes) = ([], gathered free (gathers part bytes), none_appended a)

-- bytes are left
pub finished : (s t : Session) (a b : Option (List ℕ)) → (¬ (held s.buffer ≡ [])) → Reported s t a b → Finished s t a b
finished s t a b some (r, ends, out) = (r ∷ [], inr (some, (r, refl, ends)), subst (Appends a b) (sym (append-nil (line_report r ++ 10 ∷ []))) out)

-- neither of two texts has the byte
free_both : (b : ℕ) (xs ys : List ℕ) → FreeOf b xs → FreeOf b ys → FreeOf b (xs ++ ys)
free_both b xs ys f h k l e =
    let size = length-append xs ys in
    elim (dec_lt k (length xs)) [
      | yes m ↦ f k m (sym (get_or_append_left xs ys 0 k m) ∙ e)
      | no m ↦ h (k - length xs) (omega arith) (sym (get_or-append_right xs ys (length xs) k 0 refl (omega arith)) ∙ e)
    ]

-- bytes, and then more
gathers_more : {s t u : Session} (xs ys : List ℕ) → Gathers s xs t → Gathers t ys u → Gathers s (xs ++ ys) u
gathers_more {s} xs ys a b =
    record {
      bytes = b.bytes ∙ ap (λ (h : List ℕ). kept (h ++ ys)) a.bytes ∙ kept_again 16385 (held s.buffer ++ xs) ys ∙ ap kept (append_assoc (held s.buffer) xs ys);
      grammar = b.grammar ∙ a.grammar;
      spellings = b.spellings ∙ a.spellings;
      chart = b.chart ∙ a.chart;
      count = b.count ∙ a.count;
    }

-- bytes without a line feed, and then a part
rest_join : {s t u : Session} (part more : List ℕ) (qs : List LineReport) → FreeOf 10 part → Gathers s part t → TakesPart t more qs u → TakesPart s (part ++ more) qs u
rest_join part more qs f g (gathered h b) = gathered (free_both 10 part more f h) (gathers_more part more g b)
rest_join part more qs f g (line_ended {line = line} {rest = rest} l b e h) =
    line_ended
    (record { free = free_both 10 part line f l.free; is = ap (λ (x : List ℕ). part ++ x) l.is ∙ sym (append_assoc part line (10 ∷ rest)) })
    (gathers_more part line g b) e h

pub parts_join : PartsJoin
parts_join s t u part more rs qs (gathered f g) h = rest_join part more qs f g h
parts_join s t u part more rs qs (line_ended {line = line} {rest = rest} l g e h) k =
    line_ended (record { free = l.free; is = ap (λ (x : List ℕ). x ++ more) l.is ∙ append_assoc line (10 ∷ rest) more }) g e
    (parts_join _ _ _ _ _ _ _ h k)

-- no part yet
pub none_taken : (s : Session) → TakesPart s [] [] s
none_taken s =
    gathered (λ k l e. omega (arith, l))
    (record {
      bytes = sym (ap kept (append-nil (held s.buffer)) ∙ take_all 16385 (held s.buffer) (let l = length-take s.buffer.bytes.count s.buffer.bytes.bytes in let f = s.buffer.bytes.few in omega (arith, l, f)));
      grammar = refl;
      spellings = refl;
      chart = refl;
      count = refl;
    })
