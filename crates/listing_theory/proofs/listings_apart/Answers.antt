use Rattle.listing_theory.proofs.Apart.{listings_apart}
use Rattle.listing_theory.proofs.listings_apart.Goals as goal

pub returns : goal.returns
returns c = listings_apart
