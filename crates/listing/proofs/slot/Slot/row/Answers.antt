use Rattle.std.proofs.Common.{◌+◌, arith, rules, tests}
use Rattle.bitset.proofs.Passing.{chosen_has}
use Rattle.listing.specs.Asked.{InRow}
use Rattle.listing.proofs.slot.Slot.row.Goals as goal

pub returns : goal.returns
returns c e =
    let slot = c.args.self.now in
    let node = slot.node in
    let set = chosen_has (InRow node slot.place slot.next) c.chosen.result node.start (node.end + 1) c.chosen.ensures.passed
    c.chosen.ensures.failed (λ x low high t. search (rules, tests)) (λ x low high f. search (rules, tests)) e in
    (λ has. (set.0 has).2, λ row. let low = row.0 in let high = row.1 in set.1 (low, omega arith, row))
