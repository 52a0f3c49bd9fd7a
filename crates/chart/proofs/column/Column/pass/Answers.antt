use Rattle.std.proofs.Common.{◌≡◌, ℕ, Bool, false, List, MutBor, refl, sym, subst, arith}
use Rattle.chart.specs.Columns.{Quiet}
use Rattle.chart.proofs.Steady.{pass_step}
use Rattle.chart.proofs.column.Column.pass.Goals as goal

pub step-changed-requires : goal.step-changed-requires
step-changed-requires g c = c.requires.callable _ _ (_, c.loop-k.invariant.0) (omega arith)

pub loop-k-preserved : goal.loop-k-preserved
loop-k-preserved g c =
    let k = c.loop-k.k in
    let post = goal.F-post g c.args.step in
    let v = c.requires.moves _ _ _ _ (_, c.loop-k.invariant.0) (omega arith) c.step-changed.ensures in
    let quiet :
    (cells : List ℕ) (a b : MutBor (List ℕ)) (r : Bool) → post a k r b → r ≡ false → a.now ≡ cells → b.now ≡ cells → Quiet post cells k
    = λ cells a b r said no was is. (a, b, was, is, subst (λ x. post a k x b) no said) in
    pass_step (Quiet post) c.args.self.now k c.loop-k.invariant v
    (λ no. quiet _ _ _ _ c.step-changed.ensures no (sym (v.growth.quiet no)) refl)

pub returns : goal.returns
returns g c = record {
  moved = c.loop-k.invariant.0;
  done = λ same k l. c.loop-k.invariant.1 same k (omega arith);
}
