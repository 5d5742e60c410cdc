use Rattle.pg_run.proofs.PrintedInstances.{instances_of_printed}
use Rattle.pg_run.proofs.instances.instances_of_values.Goals as goal

pub returns : goal.returns
returns c = instances_of_printed
