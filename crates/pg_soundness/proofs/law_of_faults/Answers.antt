use Rattle.pg_soundness.proofs.FaultsQueries.{faults_of_queries}
use Rattle.pg_soundness.proofs.law_of_faults.Goals as goal

pub returns : goal.returns
returns c = faults_of_queries
