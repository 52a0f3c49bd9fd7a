-- Small grammars. Assumes nothing.
use Rattle.std.specs.Prelude.{ℕ, List, [], ◌∷◌}
use Rattle.grammar.specs.declared.rule.Relation.{Relation}
use Rattle.grammar.specs.declared.rule.Relation.TheVariants.{Priority, Left, Right, NonAssoc}
use Rattle.grammar.specs.Grammar.{Production, Rule, Grammar}

-- a production, by its sides and its price
abbrev pub produce : ℕ → List ℕ → ℕ → Production
produce l r n = record { left = l; right = r; price = n }

-- a rule, by the indices of its productions
abbrev pub relate : ℕ → Relation → ℕ → Rule
relate p r q = record { upper = p; relation = r; lower = q }

-- conditions over the kinds "or", "and", "not", "(", ")" and NAME: "not" has priority over "and" and "and" over "or", and "and" and "or" are left associative
abbrev pub conditions_grammar : Grammar
conditions_grammar = record {
  start = 2;
  productions = produce 2 (2 ∷ 16 ∷ 2 ∷ []) 2 ∷ produce 2 (2 ∷ 17 ∷ 2 ∷ []) 3 ∷ produce 2 (18 ∷ 2 ∷ []) 1 ∷ produce 2 (19 ∷ 2 ∷ 20 ∷ []) 0 ∷ produce 2 (21 ∷ []) 1 ∷ [];
  rules = relate 2 Priority 1 ∷ relate 1 Priority 0 ∷ relate 0 Left 0 ∷ relate 1 Left 1 ∷ [];
}

-- the same productions without rules
abbrev pub unruled_conditions_grammar : Grammar
unruled_conditions_grammar = record { start = 2; productions = conditions_grammar.productions; rules = [] }

-- over the kinds "go", "a" and "b": the only production of B conflicts with "A = go B", which is therefore not live
abbrev pub commands_grammar : Grammar
commands_grammar = record {
  start = 0;
  productions = produce 0 (16 ∷ 1 ∷ []) 0 ∷ produce 1 (17 ∷ []) 0 ∷ produce 0 (18 ∷ []) 0 ∷ [];
  rules = relate 0 Priority 1 ∷ [];
}

-- comparisons over the kinds "is" and NAME, with given rules
abbrev pub comparisons_grammar : List Rule → Grammar
comparisons_grammar rs = record { start = 0; productions = produce 0 (0 ∷ 16 ∷ 0 ∷ []) 0 ∷ produce 0 (17 ∷ []) 0 ∷ []; rules = rs }

-- "is" does not associate
abbrev pub nonassociative_grammar : Grammar
nonassociative_grammar = comparisons_grammar (relate 0 NonAssoc 0 ∷ [])

-- "is" associates to the left and to the right, so no "is" may stand on either side of another
abbrev pub left_and_right_grammar : Grammar
left_and_right_grammar = comparisons_grammar (relate 0 Left 0 ∷ relate 0 Right 0 ∷ [])

-- "A = B a B", where B is nothing or "b", over the kinds "a" and "b"; each price is 0
abbrev pub between_grammar : Grammar
between_grammar = record { start = 0; productions = produce 0 (1 ∷ 16 ∷ 1 ∷ []) 0 ∷ produce 1 [] 0 ∷ produce 1 (17 ∷ []) 0 ∷ []; rules = [] }

-- "A = A A" and "A = a" over the kind "a", with given rules; each price is 1
abbrev pub pairs_grammar : List Rule → Grammar
pairs_grammar rs = record { start = 0; productions = produce 0 (0 ∷ 0 ∷ []) 1 ∷ produce 0 (16 ∷ []) 1 ∷ []; rules = rs }

-- any grouping in pairs
abbrev pub any_pairs_grammar : Grammar
any_pairs_grammar = pairs_grammar []

-- grouping to the left
abbrev pub left_pairs_grammar : Grammar
left_pairs_grammar = pairs_grammar (relate 0 Left 0 ∷ [])

-- "A = a b" at the price 5, and the same words by "A = B C", "B = a" and "C = b" at the price 1 each
abbrev pub detour_grammar : Grammar
detour_grammar = record {
  start = 0;
  productions = produce 0 (16 ∷ 17 ∷ []) 5 ∷ produce 0 (1 ∷ 2 ∷ []) 1 ∷ produce 1 (16 ∷ []) 1 ∷ produce 2 (17 ∷ []) 1 ∷ [];
  rules = [];
}
