-- The grammar that a sealed grammar is. Assumes nothing.
use Rattle.draft.specs.declared.sealed.Grammar.{Grammar as Sealed}
use Rattle.grammar.specs.Grammar.{Grammar}
use Rattle.draft.specs.Model.{model}

abbrev pub sealed_model : Sealed → Grammar
sealed_model g = model g.draft
