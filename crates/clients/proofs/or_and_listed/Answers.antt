use Rattle.std.proofs.Common.{sym, subst, arith}
use Rattle.small_grammars.specs.Parses.{Lists}
use Rattle.small_grammars.proofs.Examples.{small_lines}
use Rattle.clients.specs.Answers.{or_and_listing}
use Rattle.clients.proofs.Conditions.{or_and}
use Rattle.clients.proofs.or_and_listed.Goals as goal

pub returns : goal.returns
returns c = record {
  conditions = λ m l room. c.list_words.ensures.listed or_and_listing l (omega arith) (subst (λ g. Lists g or_and or_and_listing) (sym m) small_lines.conditions_lists) room;
  short = λ n. (c.list_words.ensures.short n).0;
}
