use Rattle.std.proofs.Common.{◌≡◌, ◌+◌, ◌-◌, ◌<◌, ◌≤◌, length, take, drop, sym, refl, ap, ⊎_elim, arith, rules}
use Rattle.std.specs.List.{prefix_len}
use Rattle.std.proofs.lemmas.List.{length-drop}
use Rattle.std.proofs.lemmas.List.Sums.{prefix_len-le-length}
use Rattle.lines.specs.Bytes.{is_blank, in_run}
use Rattle.lines.specs.Cuts.{mark, stray}
use Rattle.lines.specs.Model.{word_of}
use Rattle.lines.proofs.Runs.{none_first}
use Rattle.lines.proofs.Nexts.{next_by, next_none, run_starts, run_end, one_byte, mark_starts, stray_starts, no_blank, front_at}
use Rattle.lines.proofs.next.next_word.Goals as goal

pub returns-in_err-rest : goal.returns-in_err-rest
returns-in_err-rest c =
    rw c.from_residual.ensures
    (record {
      next = next_none c.args.line.now c.args.from
          (⊎_elim (λ (h : length c.args.line.now < c.args.from). omega arith) (λ (h : length c.args.line.now < length c.args.line.now). absurd (omega arith)) c.in_err-rest.ensures.lookup.0);
      within = tt;
    })

pub returns-then-start-line : goal.returns-then-start-line
returns-then-start-line c =
    let line = c.args.line.now in
    let at = front_at is_blank line c.in_ok-rest.rest.now c.args.from _ c.in_ok-rest.ensures.lookup.0.2 (c.front.ensures.count is_blank (λ byte passed told. search rules)) in
    let far = c.if-start-line.true in
    record { next = next_none c.args.line.now c.args.from (omega arith); within = tt }

pub returns-then-end-start : goal.returns-then-end-start
returns-then-end-start c =
    let line = c.args.line.now in
    let at = c.args.from + c.front.result in
    let end = at + c.front-2.result in
    let w = word_of c.run_word.result in
    let e = front_at is_blank line c.in_ok-rest.rest.now c.args.from _ c.in_ok-rest.ensures.lookup.0.2 (c.front.ensures.count is_blank (λ byte passed told. search rules)) in
    let f = front_at in_run line _ at _ refl (c.front-2.ensures.count in_run (λ byte passed told. search rules)) in
    let m = c.if-end-start.true in
    let start = c.if-start-line.false in
    let inside : end ≤ length line = omega (arith, prefix_len-le-length in_run (drop at line), length-drop at line) in
    let ends = run_end line at end f m w c.run_word.ensures inside in
    record {
      next = next_by line c.args.from at e w _ refl (rw ends (run_starts line at end f m w c.run_word.ensures));
      within = (omega arith, omega arith, omega arith);
    }

pub returns-then-visible : goal.returns-then-visible
returns-then-visible c =
    let line = c.args.line.now in
    let at = c.args.from + c.front.result in
    let inside = c.if-start-line.false in
    let e = front_at is_blank line c.in_ok-rest.rest.now c.args.from _ c.in_ok-rest.ensures.lookup.0.2 (c.front.ensures.count is_blank (λ byte passed told. search rules)) in
    let f = front_at in_run line _ at _ refl (c.front-2.ensures.count in_run (λ byte passed told. search rules)) in
    let stop = c.if-end-start.false in
    let none : prefix_len in_run (drop at line) ≡ 0 = omega arith in
    let one : length (take (at + 1 - at) (drop at line)) ≡ 1 = ap length (one_byte line at inside) in
    record {
      next = next_by line c.args.from at e (mark (take (at + 1 - at) (drop at line))) _ refl (rw one (mark_starts line at inside (none_first in_run line at inside none) (sym c.if-visible.ensures)));
      within = (omega arith, omega arith, omega arith);
    }

pub returns-else-visible : goal.returns-else-visible
returns-else-visible c =
    let line = c.args.line.now in
    let at = c.args.from + c.front.result in
    let inside = c.if-start-line.false in
    let e = front_at is_blank line c.in_ok-rest.rest.now c.args.from _ c.in_ok-rest.ensures.lookup.0.2 (c.front.ensures.count is_blank (λ byte passed told. search rules)) in
    let one : length (take (at + 1 - at) (drop at line)) ≡ 1 = ap length (one_byte line at inside) in
    record {
      next = next_by line c.args.from at e (stray (take (at + 1 - at) (drop at line))) _ refl (rw one (stray_starts line at inside (no_blank line c.args.from at e inside) (sym c.if-visible.ensures)));
      within = (omega arith, omega arith, omega arith);
    }
