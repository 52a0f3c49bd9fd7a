-- What grammars with the same content have in common. Assumes nothing.
use Rattle.std.specs.Prelude.{List, ◌↔◌, ℕ}
use Rattle.grammar.specs.Grammar.{Grammar}
use Rattle.grammar.specs.Sound.{WellFormed}
use Rattle.theory.specs.Claims.{Sentence, Viable}
use Rattle.scales.specs.Scales.{Scale}
use Rattle.score_theory.specs.Scores.{Score}
use Rattle.sameness.specs.Sames.{Same, More}

-- a well-formed grammar is the same as itself; sameness holds either way round and in a row, and the same is more
pub record Sameness : Type 0 where
  pub itself : (g : Grammar) → WellFormed g → Same g g
  pub turned : (g h : Grammar) → Same g h → Same h g
  pub onward : (g h k : Grammar) → Same g h → Same h k → Same g k
  pub more : (g h : Grammar) → Same g h → More g h

-- the same grammars have the same sentences, and the same kinds may come next
pub record SameWords (g h : Grammar) : Type 0 where
  pub sentences : (ws : List ℕ) → Sentence g ws ↔ Sentence h ws
  pub viables : (ws : List ℕ) (kind : ℕ) → Viable g ws kind ↔ Viable h ws kind

-- in well-formed grammars that are the same
abbrev pub SameReading : Type 0
SameReading = (g h : Grammar) → WellFormed g → WellFormed h → Same g h → SameWords g h

-- with more productions at least the same kinds may come next, and the sentences are sentences
pub record MoreWords (g h : Grammar) : Type 0 where
  pub sentences : (ws : List ℕ) → Sentence g ws → Sentence h ws
  pub viables : (ws : List ℕ) (kind : ℕ) → Viable g ws kind → Viable h ws kind

-- from a well-formed grammar to one that has more
abbrev pub MoreReading : Type 0
MoreReading = (g h : Grammar) → WellFormed g → More g h → MoreWords g h

-- on every scale, the words have the same scores in grammars that are the same
abbrev pub SameScores : {S : Type 0} → Scale S → Type 0
SameScores {S} s = (g h : Grammar) → WellFormed g → WellFormed h → Same g h → (ws : List ℕ) (v : S) → Score s g ws v ↔ Score s h ws v
