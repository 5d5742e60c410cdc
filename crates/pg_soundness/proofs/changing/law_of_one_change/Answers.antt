use Rattle.pg_soundness.proofs.ChangesComputed.{one_change, one_removal}
use Rattle.pg_soundness.proofs.DeletesComputed.{one_deletion}
use Rattle.pg_soundness.proofs.changing.law_of_one_change.Goals as goal

pub returns-clause-sets : goal.returns-clause-sets
returns-clause-sets c = one_change

pub returns-clause-removes : goal.returns-clause-removes
returns-clause-removes c = one_removal

pub returns-clause-deletes : goal.returns-clause-deletes
returns-clause-deletes c = one_deletion
