use Rattle.std.proofs.Common.{◌≡◌, ℕ, ◌+◌, ◌<◌, ◌↔◌, arith, rules, tests}
use Rattle.bitset.proofs.Passing.{chosen_has}
use Rattle.theory.specs.Claims.{Awaited}
use Rattle.chart.specs.Cells.{IsSet, Meets}
use lib.Bits.{bit_and}
use Rattle.chart.proofs.Halves.{some_place, no_place}
use Rattle.chart.proofs.Words.{awaited}
use Rattle.chart.proofs.kinds_behind.Goals as goal

pub returns : goal.returns
returns c g ws m len chart b l =
    let places = c.gather-places.result in
    let before = c.args.t.now.before in
    let told : (x : ℕ) (mask : ℕ) → x < 32 → IsSet mask before x → Meets places mask ↔ Awaited g ws (16 + x)
    = λ x mask low is.
    awaited c.args.t.now c.args.n x places mask c.args.cells.now (omega arith) low c.gather-places.ensures is g ws m len chart in
    let set = chosen_has (λ x. Awaited g ws (16 + x)) c.chosen.result 0 32 c.chosen.ensures.passed c.chosen.ensures.failed
    (λ x low high t.
    let met : (mask : ℕ) × IsSet mask before x × (¬ (bit_and places mask ≡ 0)) = search (rules, tests) in
    (told x met.0 (omega arith) met.1).0 (some_place places met.0 (omega arith) met.2))
    (λ x low high f.
    let unmet : (mask : ℕ) × IsSet mask before x × (bit_and places mask ≡ 0) = search (rules, tests) in
    λ w. no_place places unmet.0 unmet.2 ((told x unmet.0 (omega arith) unmet.1).1 w)) b in
    (λ h. (set.0 h).2, λ h. set.1 (omega arith, l, h))
