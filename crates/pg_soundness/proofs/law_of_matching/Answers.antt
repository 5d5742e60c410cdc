use Rattle.pg_soundness.proofs.Matching.{match_agrees}
use Rattle.pg_soundness.proofs.law_of_matching.Goals as goal

pub returns : goal.returns
returns c = match_agrees
