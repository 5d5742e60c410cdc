use Rattle.pg_tenant.proofs.KeptLemmas.{refusals_leave}
use Rattle.pg_tenant.proofs.TransactionLemmas.{begins_are_written, commits_keep, only_the_graph, others_wait, rollbacks_go_back}
use Rattle.pg_tenant.proofs.law_of_transactions.Goals as goal

pub returns-clause-begins : goal.returns-clause-begins
returns-clause-begins c = begins_are_written

pub returns-clause-only : goal.returns-clause-only
returns-clause-only c = only_the_graph

pub returns-clause-others : goal.returns-clause-others
returns-clause-others c = others_wait

pub returns-clause-commits : goal.returns-clause-commits
returns-clause-commits c = commits_keep

pub returns-clause-rollbacks : goal.returns-clause-rollbacks
returns-clause-rollbacks c = rollbacks_go_back

pub returns-clause-refusals : goal.returns-clause-refusals
returns-clause-refusals c = refusals_leave
