use Rattle.std.proofs.Common.{ℕ, ◌↔◌}
use Rattle.bitset.specs.Relations.{Holds}
use Rattle.bitset.proofs.Warshall.{Via}
use Rattle.bitset.proofs.rows.Rows.close.Given as goal

abbrev pub invariant-loop-m : goal.invariant-loop-m
invariant-loop-m l = (p q : ℕ) → Holds l.self p q ↔ Via (Holds l.initial.self) l.m p q
