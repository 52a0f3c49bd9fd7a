use Rattle.std.proofs.Common.{◌+◌, subst}
use Rattle.std.proofs.lemmas.List.{take_rest}
use Rattle.derivations.specs.Steps.{EveryIn}
use Rattle.derivations.proofs.Splitting.{around}
use Rattle.derivations.proofs.others_in.Goals as goal

pub returns-then-all_in-clause-yes : goal.returns-then-all_in-clause-yes
returns-then-all_in-clause-yes c e =
    let set = c.args.set in
    let xs = c.args.right.now in
    let k = c.args.k in
    around set xs k (c.all_in.ensures.yes c.if-all_in.true) (subst (EveryIn set) (take_rest xs (k + 1)) (c.all_in-then-all_in.ensures.yes e))
