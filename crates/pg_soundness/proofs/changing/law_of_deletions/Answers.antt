use Rattle.pg_soundness.proofs.DeletesComputed.{delete_is_computed, delete_fault_is_computed}
use Rattle.pg_soundness.proofs.changing.law_of_deletions.Goals as goal

pub returns-clause-deletes : goal.returns-clause-deletes
returns-clause-deletes c = delete_is_computed

pub returns-clause-faults : goal.returns-clause-faults
returns-clause-faults c = delete_fault_is_computed
