use Rattle.pg_tenant.proofs.InstanceLemmas.{instances_of_changes, instances_of_replies}
use Rattle.pg_tenant.proofs.instances.instances_of_tenants.Goals as goal

pub returns-clause-replies : goal.returns-clause-replies
returns-clause-replies c = instances_of_replies

pub returns-clause-changes : goal.returns-clause-changes
returns-clause-changes c = instances_of_changes
