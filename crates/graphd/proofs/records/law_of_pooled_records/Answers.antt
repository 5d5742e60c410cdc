use Rattle.graphd.proofs.RecordLemmas.{tenants_hold_records, unused_is_empty}
use Rattle.graphd.proofs.records.law_of_pooled_records.Goals as goal

pub returns-clause-tenants : goal.returns-clause-tenants
returns-clause-tenants c = tenants_hold_records

pub returns-clause-unused : goal.returns-clause-unused
returns-clause-unused c = unused_is_empty
