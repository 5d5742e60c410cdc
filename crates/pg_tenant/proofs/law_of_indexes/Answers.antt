use Rattle.pg_tenant.proofs.IndexLemmas.{indexes_rise}
use Rattle.pg_tenant.proofs.law_of_indexes.Goals as goal

pub returns : goal.returns
returns c = indexes_rise
