-- Words put one after the other. Assumes nothing.
use Rattle.std.proofs.Common.{ℕ, List, [], ◌∷◌, ◌++◌, map, Ok, Err, Result, sym, refl, ap, ◌∙◌, arith}
use Rattle.std.proofs.lemmas.List.{append-nil, append_assoc}
use Rattle.grammar.specs.Grammar.{Grammar}
use Rattle.syntax.specs.Syntax.{Spelling}
use Rattle.reading.specs.declared.reading.Reading.{Reading}
use Rattle.reading.specs.Readings.{words, cells, Long, Marks}
use Rattle.agreement.specs.declared.call.Call.TheVariants.{Put as put_call}
use Rattle.agreement.specs.declared.answer.Answer.TheVariants.{Put as put_answer}
use Rattle.agreement.specs.Histories.{Stands, put_step, played_none, played_more}
use Rattle.agreement.proofs.Playing.{played_append}
use Rattle.agreement.proofs.Working.{Ready, works_out}
use Rattle.lines.specs.declared.fault.LineFault.{LineFault}
use Rattle.lines.specs.Cuts.{Placed}
use Rattle.lines.specs.Lines.{unknown, refused, taken, PutsWords, all_put, one_refused, one_put, PutsLine, too_long, by_words, PutsKinds, no_kinds, one_kind, Leaves, LeavesLine}

words_kinds : {ss : List Spelling} {r q : Reading} {ws : List Placed} {a : Result ℕ LineFault} → PutsWords ss r ws a q → PutsKinds r q
words_kinds all_put = ([], [], played_none)
words_kinds (one_refused (unknown n)) = ([], [], played_none)
words_kinds (one_refused (refused {kind = kind} {e = e} k p)) = (kind ∷ [], put_answer (Err e) ∷ [], played_more (put_step p) played_none)
words_kinds (one_put (taken {kind = kind} {n = n} k p) m) =
    let x = words_kinds m in
    (kind ∷ x.0, put_answer (Ok n) ∷ x.1, played_more (put_step p) x.2)

-- putting a line is putting kinds
pub line_kinds : {ss : List Spelling} {line : List ℕ} {r q : Reading} {a : Result ℕ LineFault} → PutsLine ss line r a q → PutsKinds r q
line_kinds (too_long h) = ([], [], played_none)
line_kinds (by_words h c m) = words_kinds m

-- and a history goes on
pub still_stands : {r q : Reading} → PutsKinds r q → Stands r → Stands q
still_stands x h =
    let y = h.2 in
    (h.0 ++ map put_call x.0, h.1 ++ x.1, record { chart = y.chart; first = y.first; long = y.long; opened = y.opened; played = played_append y.played x.2 })

-- what a chart marks, it still marks
pub still_ready : {g : Grammar} {r q : Reading} → PutsKinds r q → Ready g r → Ready g q
still_ready x s = (works_out x.2 s).1

-- what words leave
words_leave :
    {ss : List Spelling} {r q : Reading} {ws : List Placed} {a : Result ℕ LineFault} → PutsWords ss r ws a q → Long (cells r) → Marks r → Leaves ss ws r a q
words_leave {r = r} all_put l m = record { put = []; over = []; kinds = []; split = refl; of_put = no_kinds; left = refl; stand = sym (append-nil (words r)) }
words_leave {r = r} {ws = ws} (one_refused {ws = rest} (unknown {w = w} n)) l m =
    record { put = []; over = ws; kinds = []; split = refl; of_put = no_kinds; left = (w, rest, refl); stand = sym (append-nil (words r)) }
words_leave {r = r} {ws = ws} (one_refused {ws = rest} (refused {w = w} k p)) l m =
    record { put = []; over = ws; kinds = []; split = refl; of_put = no_kinds; left = (w, rest, refl); stand = (p.answered l m).2 ∙ sym (append-nil (words r)) }
words_leave {r = r} (one_put {q = q} (taken {w = w} {at = at} {kind = kind} k p) n) l m =
    let x = words_leave n (let z = p.kept.size in omega arith) (p.marks l m) in
    record {
      put = (w, at) ∷ x.put;
      over = x.over;
      kinds = kind ∷ x.kinds;
      split = ap (λ vs. (w, at) ∷ vs) x.split;
      of_put = one_kind k x.of_put;
      left = x.left;
      stand = x.stand ∙ ap (λ us. us ++ x.kinds) (p.answered l m).1.1 ∙ append_assoc (words r) (kind ∷ []) x.kinds;
    }

-- what a line leaves
pub line_leaves : {ss : List Spelling} {line : List ℕ} {r q : Reading} {a : Result ℕ LineFault} → PutsLine ss line r a q → LeavesLine ss line r a q
line_leaves (too_long h) s l m = absurd (omega arith)
line_leaves (by_words {ws = ws} h c n) s l m = (ws, c, words_leave n l m)
