use Rattle.std.proofs.Common.{◌≡◌, ℕ, ◌<◌}
use Rattle.score_theory.specs.Weights.{sum_below}
use Rattle.score.proofs.total.total.Given as goal

abbrev pub invariant-loop-k : goal.invariant-loop-k
invariant-loop-k g l =
    let s = g.S.Semiring.scale in
    (f : ℕ → g.row.S.Denot) → ((k : ℕ) (v : g.row.S.Denot) → k < l.count → g.F.Fn.post l.part (k, tt) v → v ≡ f k) → l.sum ≡ sum_below s l.k f
