-- Tables of a grammar place its productions as they stand.
use Rattle.std.proofs.Common.{◌≡◌, zero, suc, ◌+◌, ap, arith}
use Rattle.grammar.specs.Grammar.{Grammar, Known}
use Rattle.tables.specs.declared.tables.Tables.{Tables}
use Rattle.tables.specs.Meaning.{Means}
use Rattle.tables.specs.Places.{first_place, Firsts}
use Rattle.tables.proofs.Counting.{place_next}

pub firsts_meant : (t : Tables) (g : Grammar) → Means t g → Firsts g.productions t.first
firsts_meant t g m zero l = m.start
firsts_meant t g m (suc p) l =
    let known : Known g p = omega arith in
    let i = firsts_meant t g m p known in
    let after = m.next p l in
    let f = m.final p known in
    let e = place_next g.productions p known in
    let n : p + 1 ≡ suc p = omega arith in
    let s : first_place g.productions (p + 1) ≡ first_place g.productions (suc p) = ap (first_place g.productions) n in
    omega arith
