use Rattle.std.proofs.Common.{◌≡◌, ℕ, ◌<◌, ◌≤◌, get_or, refl, subst, ⊎_elim, arith, rules, tests}
use Rattle.std.specs.List.{range_with_len}
use Rattle.std.proofs.lemmas.Bool.{MatchBool-at_false, cases_lt}
use Rattle.std.proofs.lemmas.Iterator.{cases_from_any, YieldsList-from_range}
use Rattle.std.proofs.lemmas.List.FromFn.{get_or-range_with_len}
use Rattle.bitset.specs.Relations.{Holds}
use Rattle.bitset.proofs.Joining.{no_row}
use Rattle.bitset.proofs.rows.Rows.has_loop.Goals as goal

pub returns-clause-no : goal.returns-clause-no
returns-clause-no c f p h =
    let rows = c.args.self.now in
    let Loop : ℕ → Type 0 = λ q. Holds rows q q in
    let found =
    cases_from_any _ _ _ Loop (λ q. ¬ Loop q) c.any.ensures.ran (YieldsList-from_range 0 32 32 refl refl) (λ q g k. search (rules, tests))
    (λ q g k. search (rules, tests)) in
    ⊎_elim
    (λ (low : p < 32).
    let same : p ≡ get_or (range_with_len 0 32) p 0 = omega (arith, get_or-range_with_len 0 32 p 0 low) in
    MatchBool-at_false _ _ f found p 0 (omega arith) low (subst Loop same h))
    (λ (past : 32 ≤ p). no_row rows.rows p p (omega (arith, rows.whole)) h)
    (cases_lt p 32)
