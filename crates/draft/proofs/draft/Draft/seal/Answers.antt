use Rattle.tables.proofs.Truncating.{means_to}
use Rattle.draft.proofs.draft.Draft.seal.Goals as goal

pub invariant_of-result : goal.invariant_of-result
invariant_of-result c = record { meant = means_to c.tables-tables.ensures }
