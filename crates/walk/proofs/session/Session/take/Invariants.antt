use Rattle.std.proofs.Common.{ℕ, List, Option, length}
use Rattle.walk.specs.declared.session.Session.{Session}
use Rattle.walk.specs.Sessions.{Took}
use Rattle.walk.proofs.session.Session.take.Given as goal

abbrev pub invariant-loop-behind : goal.invariant-loop-behind
invariant-loop-behind g l =
    let contents = g.W.Write.contents in
    (t : Session) (end : Option (List ℕ)) → Took l.self l.rest t (contents l.out) end → Took l.initial.self l.part t (contents l.initial.out) end

abbrev pub decreases-loop-behind : goal.decreases-loop-behind
decreases-loop-behind g l = length l.rest
