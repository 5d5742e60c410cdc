use Rattle.pg_soundness.proofs.ChangesDecided.{set_is_decided, remove_is_decided, delete_is_decided}
use Rattle.pg_soundness.proofs.changing.law_of_decisions.Goals as goal

pub returns-clause-sets : goal.returns-clause-sets
returns-clause-sets c = set_is_decided

pub returns-clause-removes : goal.returns-clause-removes
returns-clause-removes c = remove_is_decided

pub returns-clause-deletes : goal.returns-clause-deletes
returns-clause-deletes c = delete_is_decided
