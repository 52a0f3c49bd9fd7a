-- The proved examples: what small grammars read, list, count and cost, and a production that is refused since a nonterminal would lead
-- to itself. Assumes nothing.
use Rattle.std.specs.Prelude.{ℕ, List, [], ◌∷◌, Ok, Err}
use Rattle.grammar.specs.declared.refusals.DraftRefusal.TheVariants.{LeadsToItself}
use Rattle.grammar.specs.Grammar.{Production, Grammar, empty_grammar, with_production}
use Rattle.draft.specs.Calls.{AddsProduction}
use Rattle.small_grammars.specs.Examples.{LineExamples, SmallGrammars}

-- A = B A
abbrev pub recursive : ℕ → Production
recursive price = record { left = 0; right = 1 ∷ 0 ∷ []; price = price }

-- B = with nothing on its right
abbrev pub erasing : ℕ → Production
erasing price = record { left = 1; right = []; price = price }

-- the grammar whose one production is A = B A
abbrev pub with_recursive : ℕ → Grammar
with_recursive price = with_production empty_grammar (recursive price)

-- A = B A is accepted as production 1, and B = with nothing is then refused, since A would lead to itself
abbrev pub LeadingToItselfRefused : Type 0
LeadingToItselfRefused =
    ((price : ℕ) → AddsProduction empty_grammar (recursive price) (Ok 1) (with_recursive price))
    × ((price other : ℕ) → AddsProduction (with_recursive price) (erasing other) (Err LeadsToItself) (with_recursive price))

-- all examples hold
pub record ProvedExamples : Type 0 where
  pub small_grammars : SmallGrammars
  pub small_lines : LineExamples
  pub leading_to_itself : LeadingToItselfRefused
