use Rattle.pg_meaning.specs.ExamplesOfFits.{instances_of_graphs, instances_of_plans}
use Rattle.pg_meaning.proofs.instances.instances_of_graphs.Goals as goal

pub returns-clause-graphs : goal.returns-clause-graphs
returns-clause-graphs c = instances_of_graphs

pub returns-clause-plans : goal.returns-clause-plans
returns-clause-plans c = instances_of_plans
