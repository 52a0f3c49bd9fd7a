use Rattle.std.proofs.Common.{Ok, Err, ap, ◌∙◌, subst, arith}
use Rattle.std.proofs.lemmas.List.{take_all}
use Rattle.std.proofs.lemmas.Result.{err_from_is_err_and}
use Rattle.clients.specs.Lines.{PutAll}
use Rattle.clients.proofs.Putting.{put_none, kind_put, kind_refused}
use Rattle.clients.proofs.lines.put_words.Goals as goal

pub loop-kind-init : goal.loop-kind-init
loop-kind-init c = put_none _

pub loop-kind-preserved : goal.loop-kind-preserved
loop-kind-preserved c = kind_put _ _ _ c.args.kinds.now c.loop-kind.kind-index c.loop-kind-test.true c.loop-kind.invariant _ c.in_ok-put.ensures

pub returns-in_err-put : goal.returns-in_err-put
returns-in_err-put c =
    let p = err_from_is_err_and c.from_residual.result c.from_residual.ensures.1 in
    kind_refused _ _ _ c.args.kinds.now c.loop-kind.kind-index c.loop-kind-test.true c.loop-kind.invariant _ _ (p.1 ∙ ap Err p.2) c.in_err-put.ensures

pub returns : goal.returns
returns c = subst (λ ks. PutAll c.args.reading.now ks (Ok tt) c.loop-kind.reading) (take_all c.loop-kind.kind-index c.args.kinds.now (omega arith)) c.loop-kind.invariant
