use Rattle.std.proofs.Common.{◌≡◌, arith, below_more}
use Rattle.bitset.specs.Steps.{reached_more}
use Rattle.bitset.proofs.growing.pass.Goals as goal

pub loop-k-preserved : goal.loop-k-preserved
loop-k-preserved g c =
    let set = c.args.set in
    let next = c.loop-k.next in
    let k = c.loop-k.k in
    let inside = c.loop-k-test.true in
    let inv = c.loop-k.invariant in
    let grows = c.requires.grows next k c.step-next.result inv.1 inside c.step-next.ensures in (
      omega (arith, inv.0, grows),
      omega (arith, c.step-next.type_inv),
      reached_more inv.2 (k, inside, c.step-next.ensures),
      λ same.
          let still : next ≡ set = omega (arith, inv.0, grows) in
          below_more _ _ (inv.3 still) (rw (still, same) at c.step-next.ensures),
    )
