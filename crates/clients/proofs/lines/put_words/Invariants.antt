use Rattle.std.proofs.Common.{take, Ok}
use Rattle.clients.specs.Lines.{PutAll}
use Rattle.clients.proofs.lines.put_words.Given as goal

abbrev pub invariant-loop-kind : goal.invariant-loop-kind
invariant-loop-kind l = PutAll l.initial.reading (take l.kind-index l.kinds) (Ok tt) l.reading
