use Rattle.std.proofs.Common.{rules, tests}
use Rattle.tables.proofs.Ordering.{order_from}
use Rattle.tables.proofs.source.Source.conflict.Goals as goal

pub returns-then-has-clause-yes : goal.returns-then-has-clause-yes
returns-then-has-clause-yes c =
    let source = c.args.self.now in
    let order = order_from source.productions.now source.rules.now source.order source.named source.ordered in search (rules, tests)

pub returns-then-k-size-clause-no : goal.returns-then-k-size-clause-no
returns-then-k-size-clause-no c =
    let source = c.args.self.now in
    let order = order_from source.productions.now source.rules.now source.order source.named source.ordered in search (rules, tests)

pub returns-else-k-size-clause-no : goal.returns-else-k-size-clause-no
returns-else-k-size-clause-no c =
    let source = c.args.self.now in
    let order = order_from source.productions.now source.rules.now source.order source.named source.ordered in search (rules, tests)

pub returns-else-size-ge2-clause-no : goal.returns-else-size-ge2-clause-no
returns-else-size-ge2-clause-no c =
    let source = c.args.self.now in
    let order = order_from source.productions.now source.rules.now source.order source.named source.ordered in search (rules, tests)
