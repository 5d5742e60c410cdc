use Rattle.pg_soundness.proofs.MakingClauses.{create_agrees}
use Rattle.pg_soundness.proofs.law_of_making.Goals as goal

pub returns : goal.returns
returns c = create_agrees
