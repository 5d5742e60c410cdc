use Rattle.pg_server.proofs.RefusalLemmas.{refusals_keep_all}
use Rattle.pg_server.proofs.ReplyLemmas.{refusals_keep}
use Rattle.pg_server.proofs.laws.law_of_refusals.Goals as goal

pub returns-clause-tenant : goal.returns-clause-tenant
returns-clause-tenant c = refusals_keep

pub returns-clause-server : goal.returns-clause-server
returns-clause-server c = refusals_keep_all
