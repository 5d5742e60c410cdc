use Rattle.pg_soundness.proofs.FaultsExpressions.{faults_of_expressions}
use Rattle.pg_soundness.proofs.law_of_expressions.Goals as goal

pub returns : goal.returns
returns c = faults_of_expressions
