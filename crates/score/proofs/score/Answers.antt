use Rattle.std.proofs.Common.{◌≡◌, ℕ, ◌<◌, List, length, ap, subst, rules}
use Rattle.score_theory.proofs.Weighing.{weights}
use Rattle.score.proofs.Scored.{scored}
use Rattle.scales.specs.Scales.{Scale}
use Rattle.score_theory.specs.Weights.{sum_below}
use Rattle.score.specs.declared.input.Input.{Input}
use Rattle.score.specs.Inputs.{productions_in}
use Rattle.score.specs.Filling.{Root}
use Rattle.score.specs.Filled.{Filled}
use Rattle.score.proofs.score.Goals as goal

abbrev Told : {S : Type 0} → Scale S → Input → List S → ℕ → S → Type 0
Told {S} s x table start v =
    (f : ℕ → S) → ((p : ℕ) → p < length (productions_in x) → Root s x table start p (f p)) → v ≡ sum_below s (length (productions_in x)) f

-- what the roots add up to, over what the sums were taken over at first
moved :
    {S : Type 0} (s : Scale S) (x y : Input) (table : List S) (start : ℕ) (v : S) → y ≡ x → Told s y table start v → Told s x table start v
moved s x y table start v e = subst (λ z. Told s z table start v) e

pub returns : goal.returns
returns g c grammar means e f formed =
    let w = weights g.S.Semiring.scale g.met.S.Semiring.laws grammar formed c.args.words.now in
    let told = moved g.S.Semiring.scale _ _ c.fill.new.self.table.now c.args.start c.roots.result (ap (λ r. r.now) c.fill.ensures.kept.0) c.roots.ensures in
    let r = scored g.S.Semiring.scale _ c.args.table.now c.fill.new.self.table.now c.fill.ensures.right c.args.start c.roots.result told
    grammar e f means formed w.0 w.1 in
    (r.0, subst (λ u. Filled g.S.Semiring.scale grammar c.args.words.now c.args.table.now u) (search rules) r.1)
