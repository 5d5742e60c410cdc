use Rattle.pg_meaning.specs.ExamplesOfSteps.{instances_of_queries}
use Rattle.pg_meaning.proofs.instances.instances_of_queries.Goals as goal

pub returns : goal.returns
returns c = instances_of_queries
