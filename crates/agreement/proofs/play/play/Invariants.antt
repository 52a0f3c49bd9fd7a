use Rattle.std.proofs.Common.{◌≡◌, length, take, drop}
use Rattle.agreement.specs.Histories.{lent, ListsInto, ScoresInto, Played}
use Rattle.agreement.proofs.play.play.Given as goal

abbrev pub invariant-loop-i : goal.invariant-loop-i
invariant-loop-i g l =
    Played ListsInto (ScoresInto g.S.Semiring.scale) l.initial.reading (lent l.initial.records l.initial.table) (take l.i (take l.count l.calls)) (take l.i l.answers) l.reading (lent l.records l.table)
    × (drop l.i l.answers ≡ drop l.i l.initial.answers)
    × (length l.answers ≡ length l.initial.answers)
