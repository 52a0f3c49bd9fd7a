use Rattle.std.proofs.Common.{[], ◌∷◌, ap, length, length-set, refl, arith}
use Rattle.listing.proofs.Filling.{rows_begin}
use Rattle.listing.proofs.node.Node.rows.Goals as goal

pub loop-place-init : goal.loop-place-init
loop-place-init c =
    let l = c.right-size.ensures.short in (
      simp length-set refl,
      rows_begin c.args.self.now (0 ∷ 0 ∷ 0 ∷ 0 ∷ 0 ∷ 0 ∷ 0 ∷ []) _ c.with.result (ap length c.right-size.ensures.is) (omega arith) c.with.ensures.holds,
    )
