-- What may come next after given words, by the conflict-free trees of a grammar. Assumes nothing.
use Rattle.std.specs.Prelude.{◌≡◌, ℕ, ◌+◌, ◌<◌, Bool, true, ◌↔◌, List}
use Rattle.bitset.specs.Bits.{Has}
use Rattle.grammar.specs.Grammar.{Grammar}
use Rattle.theory.specs.Claims.{Sentence, Viable}

-- whether the words are a sentence, and the kinds that are viable after them: bit b of the mask stands for the kind 16 + b
pub record Next (g : Grammar) (ws : List ℕ) (sentence : Bool) (mask : ℕ) : Type 0 where
  pub ends : (sentence ≡ true) ↔ Sentence g ws
  pub kinds : (b : ℕ) → b < 32 → Has mask b ↔ Viable g ws (16 + b)
