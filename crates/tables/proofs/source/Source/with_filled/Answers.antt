use Rattle.std.proofs.Common.{refl, rules}
use Rattle.tables.proofs.source.Source.with_filled.Goals as goal

pub returns-then-fillable-clause-holds : goal.returns-then-fillable-clause-holds
returns-then-fillable-clause-holds c =
    let full = c.if-fillable.ensures.yes refl in search (rules, full)
