use Rattle.std.proofs.Common.{◌≡◌, ◌↔◌, subst, arith}
use mathlib.Core.Logic.Iff
use Rattle.bitset.specs.Relations.{Holds}
use Rattle.bitset.proofs.Joining.{in_below}
use Rattle.bitset.proofs.Warshall.{Via, via_more, via_is_closure}
use Rattle.bitset.proofs.rows.Rows.close.Goals as goal

pub loop-m-preserved : goal.loop-m-preserved
loop-m-preserved c =
    via_more (Holds c.args.self.now) (Holds c.loop-m.self) (Holds c.join_through.new.self) c.loop-m.m c.loop-m.invariant
    c.join_through.ensures

pub returns : goal.returns
returns c p q =
    let R = Holds c.args.self.now in
    let all : c.loop-m.m ≡ 32 = omega arith in
    let closed = via_is_closure R 32 (in_below 32 c.args.self.now.rows c.args.self.now.narrow) p q in
    Iff.trans (subst (λ m. Holds c.loop-m.self p q ↔ Via R m p q) all (c.loop-m.invariant p q)) closed
