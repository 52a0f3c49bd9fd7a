use Rattle.std.proofs.Common.{◌≡◌, ℕ, ◌<◌, length, get_or}
use Rattle.grammar.specs.Model.{productions}
use Rattle.tables.specs.Places.{first_place}
use Rattle.tables.proofs.placing.firsts.Given as goal

abbrev pub invariant-loop-i : goal.invariant-loop-i
invariant-loop-i l =
    (length l.first ≡ 32)
    × (l.place ≡ first_place (productions l.productions) l.i)
    × (get_or l.first 0 0 ≡ 0)
    × ((p : ℕ) → p < l.i → get_or l.first p 0 ≡ first_place (productions l.productions) p)
