use Rattle.pg_meaning.specs.ExamplesOfSteps.{instances_of_match, instances_of_unwind, instances_of_return, instances_of_create, instances_of_faults}
use Rattle.pg_meaning.proofs.instances.instances_of_clauses.Goals as goal

pub returns-clause-matches : goal.returns-clause-matches
returns-clause-matches c = instances_of_match

pub returns-clause-unwinds : goal.returns-clause-unwinds
returns-clause-unwinds c = instances_of_unwind

pub returns-clause-projects : goal.returns-clause-projects
returns-clause-projects c = instances_of_return

pub returns-clause-creates : goal.returns-clause-creates
returns-clause-creates c = instances_of_create

pub returns-clause-faults : goal.returns-clause-faults
returns-clause-faults c = instances_of_faults
