use Rattle.std.proofs.Common.{ap, ◌∙◌, arith}
use Rattle.grammar.specs.Grammar.{Grammar, with_start}
use Rattle.draft.specs.Model.{model}
use Rattle.draft.proofs.Causes.{start_taken}
use Rattle.clients.proofs.sealed_start.Goals as goal

pub returns : goal.returns
returns c = c.seal.ensures ∙ start_taken (model c.new-draft.result) 1 c.set_start.result (model c.set_start.new.self) (omega arith) c.set_start.ensures ∙ ap (λ (g : Grammar). with_start g 1) c.new-draft.ensures
