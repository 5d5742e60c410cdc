use Rattle.pg_meaning.specs.ExamplesOfFits.{instances_of_patterns}
use Rattle.pg_meaning.proofs.instances.instances_of_patterns.Goals as goal

pub returns : goal.returns
returns c = instances_of_patterns
