-- The grammar that a draft is. Assumes nothing.
use Rattle.draft.specs.declared.draft.Draft.{Draft}
use Rattle.grammar.specs.Grammar.{Grammar}
use Rattle.draft.specs.Stored.{grammar}

abbrev pub model : Draft → Grammar
model d = grammar d.start d.productions.items d.rules.items
