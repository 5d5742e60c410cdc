use Rattle.pg_server.proofs.TransactionLemmas.{rollback_takes_back, rollbacks_take_back}
use Rattle.pg_server.proofs.laws.law_of_rollback.Goals as goal

pub returns-clause-tenant : goal.returns-clause-tenant
returns-clause-tenant c = rollback_takes_back

pub returns-clause-server : goal.returns-clause-server
returns-clause-server c = rollbacks_take_back
