-- The bytes that a list of fixed room holds. Assumes nothing.
use Rattle.std.specs.Prelude.{ℕ, List, take}
use Rattle.grammar.specs.declared.bytes.Bytes.{Bytes}

abbrev pub items : {N : ℕ} → Bytes N → List ℕ
items b = take b.count b.bytes
