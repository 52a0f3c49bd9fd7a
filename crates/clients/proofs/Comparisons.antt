-- The words that are put to comparisons.
use Rattle.std.proofs.Common.{◌≡◌, ℕ, [], ◌∷◌, Ok, Err, Result, refl, arith}
use Rattle.grammar.specs.declared.refusals.ReadingRefusal.{ReadingRefusal}
use Rattle.grammar.specs.declared.refusals.ReadingRefusal.TheVariants.{NothingBegins}
use Rattle.grammar.specs.Grammar.{Grammar}
use Rattle.theory.specs.Claims.{Sentence, Viable}
use Rattle.small_grammars.specs.Grammars.{nonassociative_grammar, left_and_right_grammar}
use Rattle.small_grammars.proofs.Examples.{examples}
use Rattle.reading.specs.declared.reading.Reading.{Reading}
use Rattle.reading.specs.Readings.{Put}
use Rattle.clients.proofs.Calls.{Stands, put_stands, put_refused}

-- NAME "is" NAME is a sentence, and no "is" may follow it
pub record Compares (g : Grammar) : Type 0 where
  pub once : Sentence g (17 ∷ 16 ∷ 17 ∷ [])
  pub not_twice : ¬ Viable g (17 ∷ 16 ∷ 17 ∷ []) 16

pub nonassociative : Compares nonassociative_grammar
nonassociative = record { once = examples.nonassociative_is.ends.0 refl; not_twice = examples.nonassociative_is_is }

pub left_and_right : Compares left_and_right_grammar
left_and_right = record { once = examples.left_and_right_is.ends.0 refl; not_twice = examples.left_and_right_is_is }

-- each word of a sentence is viable after those before it
module _ (g : Grammar) (d : Compares g) (before after : Reading) (r : Result ℕ ReadingRefusal) where
  pub put_name : Put before 17 r after → Stands before g [] → (r ≡ Ok 1) × Stands after g (17 ∷ [])
  put_name p s = let w = d.once in put_stands before after g [] 17 r p s (omega arith) (omega arith, omega arith) (w.0, 16 ∷ 17 ∷ [], w.1, w.2)

  pub put_is : Put before 16 r after → Stands before g (17 ∷ []) → (r ≡ Ok 2) × Stands after g (17 ∷ 16 ∷ [])
  put_is p s = let w = d.once in put_stands before after g (17 ∷ []) 16 r p s (omega arith) (omega arith, omega arith) (w.0, 17 ∷ [], w.1, w.2)

  pub put_name_2 : Put before 17 r after → Stands before g (17 ∷ 16 ∷ []) → (r ≡ Ok 3) × Stands after g (17 ∷ 16 ∷ 17 ∷ [])
  put_name_2 p s = let w = d.once in put_stands before after g (17 ∷ 16 ∷ []) 17 r p s (omega arith) (omega arith, omega arith) (w.0, [], w.1, w.2)

  pub put_is_2 : Put before 16 r after → Stands before g (17 ∷ 16 ∷ 17 ∷ []) → r ≡ Err NothingBegins
  put_is_2 p s = put_refused before after g (17 ∷ 16 ∷ 17 ∷ []) 16 r p s (omega arith) (omega arith, omega arith) d.not_twice
