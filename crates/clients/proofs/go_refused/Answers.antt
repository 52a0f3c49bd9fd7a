use Rattle.std.proofs.Common.{[], arith}
use Rattle.small_grammars.specs.Grammars.{commands_grammar}
use Rattle.small_grammars.proofs.Examples.{examples}
use Rattle.clients.proofs.Calls.{opened_stands, opened_short, put_refused}
use Rattle.clients.proofs.go_refused.Goals as goal

pub returns : goal.returns
returns c =
    let o = c.«open».ensures in
    record {
      commands = λ m l. put_refused c.«open».result c.put.new.self commands_grammar [] 16 c.put.result c.put.ensures (opened_stands _ _ _ commands_grammar o.opened o.grammar m l) (omega arith) (omega arith, omega arith) examples.commands_go;
      short = λ n. c.put.ensures.short (opened_short _ _ o.opened n);
    }
