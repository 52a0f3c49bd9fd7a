use Rattle.listing_theory.proofs.Shortness.{short_paths}
use Rattle.listing_theory.proofs.short_paths.Goals as goal

pub returns : goal.returns
returns c = short_paths
