use Rattle.pg_tenant.proofs.PageInstances.{instances_of_held_rows, instances_of_pulls}
use Rattle.pg_tenant.proofs.instances.instances_of_pages.Goals as goal

pub returns-clause-pulls : goal.returns-clause-pulls
returns-clause-pulls c = instances_of_pulls

pub returns-clause-held : goal.returns-clause-held
returns-clause-held c = instances_of_held_rows
