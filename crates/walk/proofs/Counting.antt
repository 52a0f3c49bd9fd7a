-- A session counts the lines of its input. Assumes nothing.
use Rattle.std.proofs.Common.{refl, ◌≡◌, ℕ, suc, ◌+◌, ◌≤◌, min, List, [], ◌++◌, length, sym, subst, ap, ◌∙◌, arith, inl, inr}
use Rattle.std.proofs.lemmas.List.{nil_from_length, length-take}
use Rattle.syntax.specs.Free.{FreeOf}
use Rattle.file_model.proofs.Lines.{line_once, line_fed, line_some}
use Rattle.walk.specs.declared.session.Session.{Session}
use Rattle.walk.specs.declared.scores.LineReport.{LineReport}
use Rattle.walk.specs.Buffers.{held, kept}
use Rattle.walk.specs.Counts.{HasLines, no_lines, unended_line, ended_line}
use Rattle.walk.specs.Sessions.{Gathers, TakesPart, gathered, line_ended, Finishes, CountsLines}

-- the text has as many lines as are counted
abbrev pub Counted : Session → List ℕ → Session → Type 0
Counted s text u = (n : ℕ) × HasLines text n × (u.count ≡ min (s.count + n) 18446744073709551615)

module _ (s t : Session) (text : List ℕ) (fresh : held s.buffer ≡ []) (g : Gathers s text t) where
  bytes : held t.buffer ≡ kept text
  bytes = g.bytes ∙ ap (λ (xs : List ℕ). kept (xs ++ text)) fresh

  -- no bytes are left of no text
  nothing : held t.buffer ≡ [] → text ≡ []
  nothing none = nil_from_length text (let e = ap length (sym bytes ∙ none) in let l = length-take 16385 text in omega (arith, e, l))

  something : (¬ (held t.buffer ≡ [])) → ¬ (text ≡ [])
  something some e = some (bytes ∙ ap kept e)

  -- the last part has no line end
  last_counted : (u : Session) (rs : List LineReport) → s.count ≤ 18446744073709551615 → FreeOf 10 text → Finishes t rs u → Counted s text u
  last_counted u rs few free (inl (none, e, same)) =
      (0, subst (λ (xs : List ℕ). HasLines xs 0) (sym (nothing none)) no_lines, omega (arith, ap (λ (x : Session). x.count) same, g.count))
  last_counted u rs few free (inr (some, (r, e, ends))) = (1, unended_line (something some) free, omega (arith, ends.count, g.count))

-- a part and the end
pub counted :
    {s t u : Session} {text : List ℕ} {rs qs : List LineReport} →
    held s.buffer ≡ [] →
    s.count ≤ 18446744073709551615 →
    TakesPart s text rs t →
    Finishes t qs u →
    Counted s text u
counted fresh few (gathered free g) f = last_counted _ _ _ fresh g _ _ few free f
counted {s} {t} {u} fresh few (line_ended {t = v} {u = w} line g ends h) f =
    let more = counted ends.fresh (let e = ends.count in omega arith) h f in
    (suc more.0, ended_line line more.1, omega (arith, more.2, ends.count, g.count))

-- a text has one number of lines
one_count : {text : List ℕ} {n m : ℕ} → HasLines text n → HasLines text m → n ≡ m
one_count no_lines no_lines = refl
one_count no_lines (unended_line some free) = absurd (some refl)
one_count no_lines (ended_line l h) = absurd (line_some l refl)
one_count (unended_line some free) no_lines = absurd (some refl)
one_count (unended_line some free) (unended_line more none) = refl
one_count (unended_line some free) (ended_line l h) = absurd (line_fed l free)
one_count (ended_line l h) no_lines = absurd (line_some l refl)
one_count (ended_line l h) (unended_line some free) = absurd (line_fed l free)
one_count (ended_line l h) (ended_line {n = m} k j) = ap suc (one_count h (subst (λ (t : List ℕ). HasLines t m) (sym (line_once l k).1) j))

pub counts_lines : CountsLines
counts_lines s t text rs n none fresh h lines =
    let k = counted fresh (omega (arith, none)) h.part h.end in
    omega (arith, k.2, none, one_count lines k.1)
