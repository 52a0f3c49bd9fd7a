-- What the clients answer. Assumes nothing.
use Rattle.std.specs.Prelude.{true, false, List, [], ◌∷◌}
use Rattle.listing_theory.specs.declared.record.Record.{Record}
use Rattle.small_grammars.specs.Parses.{row}
use Rattle.clients.specs.declared.Seen.{Seen}

-- the answers of the looks at conditions
abbrev pub conditions_answers : Seen
conditions_answers = record { empty = (false, 44); name = (true, 3); open_name = (false, 19) }

-- the listing of NAME "or" NAME "and" NAME in conditions: the "and" stands below the "or"
abbrev pub or_and_listing : List Record
or_and_listing = row 1 0 5 ∷ row 5 0 1 ∷ row 2 2 5 ∷ row 5 2 3 ∷ row 5 4 5 ∷ []
