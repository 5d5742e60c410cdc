use Rattle.pg_server.proofs.TransactionLemmas.{none_waits_for_others, others_wait}
use Rattle.pg_server.proofs.laws.law_of_waiting.Goals as goal

pub returns-clause-own : goal.returns-clause-own
returns-clause-own c = others_wait

pub returns-clause-others : goal.returns-clause-others
returns-clause-others c = none_waits_for_others
