use Rattle.pg_soundness.proofs.MatchFound.{walks_list_fits}
use Rattle.pg_soundness.proofs.law_of_walks.Goals as goal

pub returns : goal.returns
returns c = walks_list_fits
