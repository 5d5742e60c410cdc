use Rattle.pg_soundness.proofs.ListingWalks.{walks_are_the_listing}
use Rattle.pg_soundness.proofs.law_of_listing.Goals as goal

pub returns : goal.returns
returns c = walks_are_the_listing
