-- The examples.
use Rattle.std.proofs.Common.{◌≡◌, ℕ, ◌+◌, ◌<◌, Bool, true, false, List, [], ◌∷◌, refl, arith}
use Rattle.bitset.specs.Bits.{bit}
use Rattle.grammar.specs.Grammar.{Grammar}
use Rattle.theory.specs.Claims.{Viable}
use Rattle.small_grammars.specs.Next.{Next}
use Rattle.small_grammars.specs.Grammars.{conditions_grammar, unruled_conditions_grammar, commands_grammar, nonassociative_grammar, left_and_right_grammar, between_grammar, any_pairs_grammar, left_pairs_grammar, detour_grammar}
use Rattle.small_grammars.specs.Parses.{row}
use Rattle.small_grammars.specs.Examples.{LineExamples, SmallGrammars}
use Rattle.small_grammars.proofs.Checked.{checked}
use Rattle.small_grammars.proofs.Weighed.{listed, trees, costs}

commands_empty : Next commands_grammar [] false 4
commands_empty = checked commands_grammar [] false 4 refl

nonassociative_is : Next nonassociative_grammar (17 ∷ 16 ∷ 17 ∷ []) true 0
nonassociative_is = checked nonassociative_grammar (17 ∷ 16 ∷ 17 ∷ []) true 0 refl

left_and_right_is : Next left_and_right_grammar (17 ∷ 16 ∷ 17 ∷ []) true 0
left_and_right_is = checked left_and_right_grammar (17 ∷ 16 ∷ 17 ∷ []) true 0 refl

-- a kind whose bit is 0 is not viable
not_viable : {g : Grammar} {ws : List ℕ} {sentence : Bool} {mask : ℕ} → Next g ws sentence mask → (b : ℕ) → b < 32 → bit mask b ≡ 0 → ¬ Viable g ws (16 + b)
not_viable n b l e v = omega (arith, (n.kinds b l).1 v)

pub examples : SmallGrammars
unfolding bit
examples = record {
  conditions_empty = checked conditions_grammar [] false 44 refl;
  conditions_name = checked conditions_grammar (21 ∷ []) true 3 refl;
  conditions_open_name = checked conditions_grammar (19 ∷ 21 ∷ []) false 19 refl;
  commands_empty = commands_empty;
  commands_go = not_viable commands_empty 0 (omega arith) refl;
  nonassociative_name = checked nonassociative_grammar (17 ∷ []) true 1 refl;
  nonassociative_is = nonassociative_is;
  nonassociative_is_is = not_viable nonassociative_is 0 (omega arith) refl;
  left_and_right_is = left_and_right_is;
  left_and_right_is_is = not_viable left_and_right_is 0 (omega arith) refl;
}

pub small_lines : LineExamples
small_lines = record {
  conditions_lists = listed conditions_grammar (21 ∷ 16 ∷ 21 ∷ 17 ∷ 21 ∷ []) (row 1 0 5 ∷ row 5 0 1 ∷ row 2 2 5 ∷ row 5 2 3 ∷ row 5 4 5 ∷ []) refl;
  conditions_costs = costs conditions_grammar (21 ∷ 16 ∷ 21 ∷ 17 ∷ 21 ∷ []) 8 refl;
  conditions_trees = trees conditions_grammar (21 ∷ 16 ∷ 21 ∷ 17 ∷ 21 ∷ []) 1 refl;
  unruled_conditions_trees = trees unruled_conditions_grammar (21 ∷ 16 ∷ 21 ∷ 17 ∷ 21 ∷ []) 2 refl;
  between_lists = listed between_grammar (16 ∷ []) (row 1 0 1 ∷ row 2 0 0 ∷ row 2 1 1 ∷ []) refl;
  any_pairs_trees = trees any_pairs_grammar (16 ∷ 16 ∷ 16 ∷ 16 ∷ []) 5 refl;
  left_pairs_trees = trees left_pairs_grammar (16 ∷ 16 ∷ 16 ∷ 16 ∷ []) 1 refl;
  detour_costs = costs detour_grammar (16 ∷ 17 ∷ []) 3 refl;
  detour_lists = listed detour_grammar (16 ∷ 17 ∷ []) (row 1 0 2 ∷ []) refl;
}
