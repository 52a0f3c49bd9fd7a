-- The words that are put to conditions, and what the looks answer.
use Rattle.std.proofs.Common.{◌≡◌, ℕ, ◌^◌, ◌<◌, Bool, true, false, List, [], ◌∷◌, Ok, Result, refl, arith}
use Rattle.grammar.specs.declared.refusals.ReadingRefusal.{ReadingRefusal}
use Rattle.bitset.specs.Bits.{bit}
use Rattle.theory.specs.Claims.{Sentence, Viable}
use Rattle.small_grammars.specs.Grammars.{conditions_grammar}
use Rattle.small_grammars.proofs.Examples.{examples}
use Rattle.reading.specs.declared.reading.Reading.{Reading}
use Rattle.reading.specs.Readings.{Put, Looked}
use Rattle.clients.proofs.Calls.{Stands, put_stands, look_stands}

-- NAME "or" NAME "and" NAME
abbrev pub or_and : List ℕ
or_and = 21 ∷ 16 ∷ 21 ∷ 17 ∷ 21 ∷ []

-- a name is a sentence
name_whole : Sentence conditions_grammar (21 ∷ [])
name_whole = examples.conditions_name.ends.0 refl

-- ")" is viable after "(" and a name
closes : Viable conditions_grammar (19 ∷ 21 ∷ []) 20
unfolding bit
closes = (examples.conditions_open_name.kinds 4 (omega arith)).0 refl

-- each of the words is viable after those before it
module _ (before after : Reading) (r : Result ℕ ReadingRefusal) where
  pub put_name : Put before 21 r after → Stands before conditions_grammar [] → (r ≡ Ok 1) × Stands after conditions_grammar (21 ∷ [])
  put_name p s =
      let w = name_whole in
      put_stands before after conditions_grammar [] 21 r p s (omega arith) (omega arith, omega arith) (w.0, [], w.1, w.2)

  pub put_open : Put before 19 r after → Stands before conditions_grammar [] → (r ≡ Ok 1) × Stands after conditions_grammar (19 ∷ [])
  put_open p s =
      let w = closes in
      put_stands before after conditions_grammar [] 19 r p s (omega arith) (omega arith, omega arith) (w.0, 21 ∷ 20 ∷ w.1, w.2, w.3)

  pub put_open_name : Put before 21 r after → Stands before conditions_grammar (19 ∷ []) → (r ≡ Ok 2) × Stands after conditions_grammar (19 ∷ 21 ∷ [])
  put_open_name p s =
      let w = closes in
      put_stands before after conditions_grammar (19 ∷ []) 21 r p s (omega arith) (omega arith, omega arith) (w.0, 20 ∷ w.1, w.2, w.3)

-- what the looks answer
module _ (r : Reading) (x : Bool × ℕ) (q : Looked r (Ok x)) (f : x.1 < 2 ^ 32) where
  pub look_empty : Stands r conditions_grammar [] → x ≡ (false, 44)
  look_empty s = look_stands r conditions_grammar [] false 44 x q s (omega arith) examples.conditions_empty (omega arith) f

  pub look_name : Stands r conditions_grammar (21 ∷ []) → x ≡ (true, 3)
  look_name s = look_stands r conditions_grammar (21 ∷ []) true 3 x q s (omega arith) examples.conditions_name (omega arith) f

  pub look_open_name : Stands r conditions_grammar (19 ∷ 21 ∷ []) → x ≡ (false, 19)
  look_open_name s = look_stands r conditions_grammar (19 ∷ 21 ∷ []) false 19 x q s (omega arith) examples.conditions_open_name (omega arith) f
