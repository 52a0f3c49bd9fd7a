use Rattle.std.proofs.Common.{◌+◌, ◌*◌, ◌/◌, ◌^◌, ◌-◌, ◌<◌, ◌≡◌, length, get_or, arith, rules}
use lib.Bits.{bit_and, and_le_r}
use Rattle.chart.proofs.Growing.{joined_by, joins, then_grows}
use Rattle.chart.proofs.items.join_places.Goals as goal

pub returns : goal.returns
returns c =
    let a = c.args.cells.now in
    let b = c.join-one.new.cells in
    let to = 2 * c.args.x in
    let p = c.args.places in
    let one = c.join-one.ensures in
    let two = c.join-two.ensures in
    let long : length b ≡ 4802 = search rules in
    let fit_one : get_or a to 0 < 2 ^ 64 = search rules in
    let fit_two : get_or b (to + 1) 0 < 2 ^ 64 = search rules in
    joins to p a b c.join-two.new.cells _ (omega arith) (rw c.from.ensures at one.same) two.same
    (then_grows (joined_by a b to (bit_and p (2 ^ 64 - 1)) _ (omega arith) fit_one (omega (arith, and_le_r p (2 ^ 64 - 1))) (rw c.from.ensures at one.same) (rw c.from.ensures at one.value))
    (joined_by b c.join-two.new.cells (to + 1) (p / 2 ^ 64) _ (omega arith) fit_two (omega arith) two.same two.value))
