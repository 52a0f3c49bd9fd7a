use Rattle.std.proofs.Common.{◌≡◌, ℕ, ◌<◌, get_or, refl, subst, arith, rules, tests}
use Rattle.std.specs.List.{range_with_len}
use Rattle.std.proofs.lemmas.Bool.{MatchBool-at_false}
use Rattle.std.proofs.lemmas.Iterator.{cases_from_any, YieldsList-from_range}
use Rattle.std.proofs.lemmas.List.FromFn.{get_or-range_with_len}
use Rattle.bitset.specs.Bits.{Has}
use Rattle.tables.specs.Sets.{Marked}
use Rattle.tables.proofs.Marks.{has_below}
use Rattle.tables.proofs.liveness.is_filled.Goals as goal

pub returns-clause-no : goal.returns-clause-no
returns-clause-no c f h =
    let Both : ℕ → Type 0 = λ q. Has c.args.set q × Marked c.args.waits.now q c.args.d in
    let found =
    cases_from_any _ _ _ Both (λ q. ¬ Both q) c.any.ensures.ran (YieldsList-from_range 0 32 32 refl refl) (λ q g k. search (rules, tests))
    (λ q g k. search (rules, tests)) in
    let low : h.0 < 32 = has_below 32 c.args.set h.0 (omega (arith, c.ranges.set)) h.1 in
    let same : h.0 ≡ get_or (range_with_len 0 32) h.0 0 = omega (arith, get_or-range_with_len 0 32 h.0 0 low) in
    MatchBool-at_false _ _ f found h.0 0 (omega arith) low (subst Both same (h.1, h.2))
