-- How much bytes and stored productions hold at most.
use Rattle.std.proofs.Common.{ℕ, ◌≤◌, length, arith}
use Rattle.std.proofs.lemmas.List.{length-take-le}
use Rattle.grammar.specs.declared.bytes.Bytes.{Bytes}
use Rattle.grammar.specs.declared.production.Production.{Production as Stored}
use Rattle.grammar.specs.Bytes.{items}
use Rattle.grammar.specs.Model.{production}

pub few_items : {N : ℕ} (b : Bytes N) → length (items b) ≤ N
few_items b = omega (arith, b.few, length-take-le b.count b.bytes (omega (arith, b.whole, b.few)))

-- a right side has at most six symbols
pub few_symbols : (p : Stored) → length (production p).right ≤ 6
few_symbols p = few_items p.right
