-- What is decided of a grammar whose rules are between its productions. Assumes nothing.
use Rattle.std.specs.Prelude.{ℕ, List}
use Rattle.grammar.specs.Grammar.{Grammar}
use Rattle.grammar.specs.Order.{Conflict}
use Rattle.grammar.specs.Items.{Live, Item}
use Rattle.grammar.specs.Sound.{Named}

-- whether q conflicts with p at position k
abbrev pub ConflictsDecided : Type 0
ConflictsDecided = (g : Grammar) → Named g → (p k q : ℕ) → Dec (Conflict g p k q)

-- whether p is live
abbrev pub LiveDecided : Type 0
LiveDecided = (g : Grammar) → Named g → (p : ℕ) → Dec (Live g p)

-- whether an item is derivable
abbrev pub ItemsDecided : Type 0
ItemsDecided = (g : Grammar) → Named g → (ws : List ℕ) (p k i j : ℕ) → Dec (Item g ws p k i j)
