use Rattle.pg_soundness.proofs.ChangingClauses.{set_agrees, remove_agrees}
use Rattle.pg_soundness.proofs.ChangingDelete.{delete_agrees}
use Rattle.pg_soundness.proofs.changing.law_of_changing.Goals as goal

pub returns-clause-sets : goal.returns-clause-sets
returns-clause-sets c = set_agrees

pub returns-clause-removes : goal.returns-clause-removes
returns-clause-removes c = remove_agrees

pub returns-clause-deletes : goal.returns-clause-deletes
returns-clause-deletes c = delete_agrees
