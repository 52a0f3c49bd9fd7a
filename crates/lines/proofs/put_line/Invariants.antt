use Rattle.std.proofs.Common.{ℕ, List, drop, Result}
use Rattle.reading.specs.declared.reading.Reading.{Reading}
use Rattle.spellings.specs.Model.{words}
use Rattle.lines.specs.declared.fault.LineFault.{LineFault}
use Rattle.lines.specs.Cuts.{Placed, Cuts}
use Rattle.lines.specs.Lines.{PutsWords}
use Rattle.lines.proofs.put_line.Given as goal

abbrev pub invariant-loop-word : goal.invariant-loop-word
invariant-loop-word l =
    (ws : List Placed) (a : Result ℕ LineFault) (q : Reading) →
    Cuts l.word-iterator.from (drop l.word-iterator.from l.word-iterator.line.now) ws →
    PutsWords (words l.spellings) l.reading ws a q →
    (vs : List Placed) × Cuts 0 l.line vs × PutsWords (words l.spellings) l.initial.reading vs a q
