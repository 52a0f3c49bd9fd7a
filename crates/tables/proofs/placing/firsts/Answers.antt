use Rattle.std.proofs.Common.{◌≡◌, ◌+◌, ◌≢◌, length, get_or, set, ap, ◌∙◌, ⊎_elim, arith}
use Rattle.std.proofs.lemmas.List.{length-set, get_or-set_same, get_or-set_other}
use Rattle.std.proofs.lemmas.Bool.{cases_eq}
use Rattle.grammar.specs.Grammar.{Production, right_at}
use Rattle.derivations.proofs.Elements.{is_at}
use Rattle.grammar.specs.Model.{productions}
use Rattle.tables.specs.Places.{first_place}
use Rattle.tables.proofs.Counting.{set_more, place_next, last_low, known_at, stored_at}
use Rattle.tables.proofs.placing.firsts.Goals as goal

pub overflow_cast-first : goal.overflow_cast-first
overflow_cast-first c =
    let ps = c.args.productions.now in
    omega (arith, last_low (productions ps) c.loop-i.i (known_at ps c.loop-i.i c.loop-i-test.true), c.requires.small, c.loop-i.invariant.1)

-- the places of the production that was read
size : (c : goal.After-places-place) → c.places-place.result ≡ length (right_at (productions c.args.productions.now) c.loop-i.i) + 1
size c =
    let ps = c.args.productions.now in
    omega (arith, c.places-place.ensures.value, ap (λ (p : Production). length p.right) (is_at ps c.loop-i.i c.index-productions-i.result c.loop-i-test.true c.index-productions-i.is))

pub loop-i-preserved : goal.loop-i-preserved
loop-i-preserved c =
    let ps = c.args.productions.now in
    let i = c.loop-i.i in
    let xs = c.loop-i.first in
    let v = c.loop-i.place in
    let inv = c.loop-i.invariant in
    let n = place_next (productions ps) i (known_at ps i c.loop-i-test.true) in (
      length-set xs i v ∙ inv.0,
      omega (arith, n, inv.1, size c),
      ⊎_elim (λ (e : i ≡ 0). ap (λ k. get_or (set xs k v) 0 0) e ∙ get_or-set_same xs 0 v 0 (omega (arith, inv.0)) ∙ inv.1 ∙ ap (first_place (productions ps)) e)
          (λ (e : i ≡ 0 → ⊥). let ne : 0 ≢ i = λ z. e (omega (arith, z)) in get_or-set_other xs i 0 v 0 ne ∙ inv.2)
          (cases_eq i 0),
      set_more xs i v (first_place (productions ps)) (omega (arith, inv.0, c.requires.few, c.loop-i-test.true)) inv.3 inv.1,
    )

pub returns : goal.returns
returns c =
    let inv = c.loop-i.invariant in
    record { zero = inv.2; each = λ p l. inv.3 p (omega (arith, stored_at c.args.productions.now p l, c.loop-i-test.false)) }
