-- How the dot of an entry moves on, with tests that compute.
use Rattle.std.proofs.Common.{◌≡◌, ℕ, ◌<◌, Bool, ◌&&◌, eqb, ltb, List, length, get_or, Decides}
use Rattle.std.proofs.lemmas.Bool.Decides.{Decides-and, Decides-eqb, Decides-ltb}
use Rattle.grammar.specs.Grammar.{Grammar, Kind, At, right_of, size_of}
use Rattle.small_grammars.proofs.Conflicts.{AboveExact}
use Rattle.small_grammars.proofs.Lives.{is_kind, decides_kind, Admits, symbol, admits, decides_admits}
use Rattle.small_grammars.proofs.Entries.{Entry}

-- the next word is the symbol behind the dot
abbrev pub reads : Grammar → List ℕ → Entry → Bool
reads g ws y =
    (ltb y.dot (size_of g y.production) && eqb (symbol g y.production y.dot) (get_or ws y.ends 0))
    && (is_kind (get_or ws y.ends 0) && ltb y.ends (length ws))

abbrev pub Reads : Grammar → List ℕ → Entry → Type 0
Reads g ws y = At (right_of g y.production) y.dot (get_or ws y.ends 0) × (Kind (get_or ws y.ends 0) × (y.ends < length ws))

pub decides_reads : (g : Grammar) (ws : List ℕ) (y : Entry) → Decides (reads g ws y) (Reads g ws y)
decides_reads g ws y =
    Decides-and _ _ (Decides-and _ _ (Decides-ltb y.dot (size_of g y.production)) (Decides-eqb (symbol g y.production y.dot) (get_or ws y.ends 0)))
    (Decides-and _ _ (decides_kind (get_or ws y.ends 0)) (Decides-ltb y.ends (length ws)))

-- z is complete, begins where y ends, and may stand behind the dot of y
abbrev pub completes : Grammar → List (ℕ × ℕ) → Entry → Entry → Bool
completes g A y z = (eqb z.origin y.ends && eqb z.dot (size_of g z.production)) && admits g A y.production y.dot z.production

abbrev pub Completes : Grammar → Entry → Entry → Type 0
Completes g y z = ((z.origin ≡ y.ends) × (z.dot ≡ size_of g z.production)) × Admits g y.production y.dot z.production

pub decides_completes : (g : Grammar) (A : List (ℕ × ℕ)) → AboveExact g A → (y z : Entry) → Decides (completes g A y z) (Completes g y z)
decides_completes g A exact y z =
    Decides-and _ _ (Decides-and _ _ (Decides-eqb z.origin y.ends) (Decides-eqb z.dot (size_of g z.production)))
    (decides_admits g A exact y.production y.dot z.production)
