use Rattle.std.proofs.Common.{◌≤◌, length, rules, arith}
use Rattle.std.proofs.lemmas.Iterator.Adapters.{fits_from_length, at_most_from_yields_List}
use Rattle.std.proofs.lemmas.Iterator.{YieldsList-from_slice}
use Rattle.grammar.proofs.production.methods.place_count.Goals as goal

-- the slice is too short for the sum to overflow: a production takes 24 bytes and has at most seven places
pub sum-requires-clause-fits : goal.sum-requires-clause-fits
sum-requires-clause-fits c =
    let short = c.well_formed.0.1 in
    let few : length c.args.productions.now ≤ 768614336404564650 = omega arith in
    fits_from_length _ _ 768614336404564650 _ (at_most_from_yields_List (YieldsList-from_slice c.args.productions.now cc) few) c.map.ensures.closure (omega arith) (λ x r q k. search rules)
