use Rattle.std.proofs.Common.{◌+◌, ◌≤◌, length}
use Rattle.exhaustive.proofs.print_lines.Given as goal

abbrev pub invariant-loop-line : goal.invariant-loop-line
invariant-loop-line l =
    (goal.iterator-loop-line).can_next l.line-iterator
    × (goal.iterator-loop-line).is_finite l.line-iterator
    × (l.count + (goal.iterator-loop-line).remaining l.line-iterator ≤ length l.input)
