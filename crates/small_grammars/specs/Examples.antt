-- What may come next after given words of the small grammars, and what whole lines list, how many trees they have and what they cost. Assumes nothing.
use Rattle.std.specs.Prelude.{true, false, [], ◌∷◌}
use Rattle.theory.specs.Claims.{Viable}
use Rattle.small_grammars.specs.Next.{Next}
use Rattle.small_grammars.specs.Parses.{row, Lists, Trees, Costs}
use Rattle.small_grammars.specs.Grammars.{conditions_grammar, unruled_conditions_grammar, commands_grammar, nonassociative_grammar, left_and_right_grammar, between_grammar, any_pairs_grammar, left_pairs_grammar, detour_grammar}

-- each field is named by the grammar and the words
pub record Examples : Type 0 where
  pub conditions_empty : Next conditions_grammar [] false 44
  pub conditions_name : Next conditions_grammar (21 ∷ []) true 3
  pub conditions_open_name : Next conditions_grammar (19 ∷ 21 ∷ []) false 19
  pub commands_empty : Next commands_grammar [] false 4
  pub commands_go : ¬ Viable commands_grammar [] 16
  pub nonassociative_name : Next nonassociative_grammar (17 ∷ []) true 1
  pub nonassociative_is : Next nonassociative_grammar (17 ∷ 16 ∷ 17 ∷ []) true 0
  pub nonassociative_is_is : ¬ Viable nonassociative_grammar (17 ∷ 16 ∷ 17 ∷ []) 16
  pub left_and_right_is : Next left_and_right_grammar (17 ∷ 16 ∷ 17 ∷ []) true 0
  pub left_and_right_is_is : ¬ Viable left_and_right_grammar (17 ∷ 16 ∷ 17 ∷ []) 16

-- what whole lines list, how many trees they have and what they cost; each field is named by the grammar
pub record LineExamples : Type 0 where
  -- NAME or NAME and NAME
  pub conditions_lists : Lists conditions_grammar (21 ∷ 16 ∷ 21 ∷ 17 ∷ 21 ∷ []) (row 1 0 5 ∷ row 5 0 1 ∷ row 2 2 5 ∷ row 5 2 3 ∷ row 5 4 5 ∷ [])
  pub conditions_costs : Costs conditions_grammar (21 ∷ 16 ∷ 21 ∷ 17 ∷ 21 ∷ []) 8
  pub conditions_trees : Trees conditions_grammar (21 ∷ 16 ∷ 21 ∷ 17 ∷ 21 ∷ []) 1
  pub unruled_conditions_trees : Trees unruled_conditions_grammar (21 ∷ 16 ∷ 21 ∷ 17 ∷ 21 ∷ []) 2
  pub between_lists : Lists between_grammar (16 ∷ []) (row 1 0 1 ∷ row 2 0 0 ∷ row 2 1 1 ∷ [])
  pub any_pairs_trees : Trees any_pairs_grammar (16 ∷ 16 ∷ 16 ∷ 16 ∷ []) 5
  pub left_pairs_trees : Trees left_pairs_grammar (16 ∷ 16 ∷ 16 ∷ 16 ∷ []) 1
  pub detour_costs : Costs detour_grammar (16 ∷ 17 ∷ []) 3
  pub detour_lists : Lists detour_grammar (16 ∷ 17 ∷ []) (row 1 0 2 ∷ [])

-- the examples of what may come next hold
abbrev pub SmallGrammars : Type 0
SmallGrammars = Examples
