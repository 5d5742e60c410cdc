use Rattle.pg_soundness.proofs.ChangesComputed.{set_is_computed, set_fault_is_computed, remove_is_computed, remove_fault_is_computed}
use Rattle.pg_soundness.proofs.changing.law_of_changes.Goals as goal

pub returns-clause-sets : goal.returns-clause-sets
returns-clause-sets c = set_is_computed

pub returns-clause-set_faults : goal.returns-clause-set_faults
returns-clause-set_faults c = set_fault_is_computed

pub returns-clause-removes : goal.returns-clause-removes
returns-clause-removes c = remove_is_computed

pub returns-clause-remove_faults : goal.returns-clause-remove_faults
returns-clause-remove_faults c = remove_fault_is_computed
