use Rattle.pg_plan.proofs.PlanInstances.{instances_of_lengths, instances_of_updates}
use Rattle.pg_plan.proofs.instances.instances_of_plans.Goals as goal

pub returns-clause-updates : goal.returns-clause-updates
returns-clause-updates c = instances_of_updates

pub returns-clause-lengths : goal.returns-clause-lengths
returns-clause-lengths c = instances_of_lengths
