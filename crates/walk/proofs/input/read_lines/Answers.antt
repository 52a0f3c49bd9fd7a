use Rattle.std.proofs.Common.{◌≡◌, ◌<◌, refl, [], ◌++◌, length, take, ap, ◌∙◌, subst, append-nil, rules}
use Rattle.std.proofs.lemmas.Result.{on_ok_weaker}
use Rattle.std.specs.Io.KnownBytes.{Consumes}
use Rattle.walk.proofs.Parts.{none_taken, parts_join}
use Rattle.walk.proofs.Taking.{read_one, all_taken}
use Rattle.walk.proofs.Writing.{none_appended, none_read, both_read, all_read, reports_appended}
use Rattle.walk.proofs.input.read_lines.Goals as goal

pub loop-init : goal.loop-init
loop-init g c = (refl, ([], [], none_read _, none_taken _, none_appended _))

pub returns-then-count-eq0 : goal.returns-then-count-eq0
returns-then-count-eq0 g c =
    let (size, (moved, rs, read, taken, out)) = c.loop.invariant in
    let one = read_one _ _ _ c.in_ok-count.count c.read.new.buf c.in_ok-count.ensures c.read.ensures.bytes in
    let same : moved ++ take c.in_ok-count.count c.read.new.buf ≡ moved = ap (λ n. moved ++ take n c.read.new.buf) c.if-count-eq0.true ∙ append-nil moved in
    let all = subst (Consumes _ _) same (both_read _ _ _ _ _ read one.0) in
    let room : 0 < length c.read.new.buf = search rules in
    on_ok_weaker c.finish.result (λ h. all_read _ _ moved _ all (one.1 c.if-count-eq0.true room) (all_taken _ _ _ _ rs _ _ _ taken out h)) c.finish.ensures

pub loop-preserved : goal.loop-preserved
loop-preserved g c =
    let (size, (moved, rs, read, taken, out)) = c.loop.invariant in
    let (qs, more, out') = c.in_ok-take.ensures in
    let one = read_one _ _ _ c.in_ok-count.count c.read.new.buf c.in_ok-count.ensures c.read.ensures.bytes in (
      search rules,
      (
        moved ++ take c.in_ok-count.count c.read.new.buf,
        rs ++ qs,
        both_read _ _ _ _ _ read one.0,
        parts_join _ _ _ _ _ _ _ taken more,
        reports_appended _ _ _ _ _ out out',
      ),
    )
