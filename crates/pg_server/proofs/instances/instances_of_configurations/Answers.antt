use Rattle.pg_server.proofs.ConfigurationInstances.{faults_are_in_order, shapes_are_tested}
use Rattle.pg_server.proofs.InstanceLemmas.{configurations_are_tested}
use Rattle.pg_server.proofs.RequestInstances.{instances_of_openings}
use Rattle.pg_server.proofs.instances.instances_of_configurations.Goals as goal

pub returns-clause-tested : goal.returns-clause-tested
returns-clause-tested c = configurations_are_tested

pub returns-clause-shapes : goal.returns-clause-shapes
returns-clause-shapes c = shapes_are_tested

pub returns-clause-order : goal.returns-clause-order
returns-clause-order c = faults_are_in_order

pub returns-clause-openings : goal.returns-clause-openings
returns-clause-openings c = instances_of_openings
