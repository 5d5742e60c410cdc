use Rattle.pg_json.proofs.RequestInstances.{bodies_are_refused, bodies_are_requests, instances_of_numbers, instances_of_tokens}
use Rattle.pg_json.proofs.instances.instances_of_requests.Goals as goal

pub returns-clause-asked : goal.returns-clause-asked
returns-clause-asked c = bodies_are_requests

pub returns-clause-refused : goal.returns-clause-refused
returns-clause-refused c = bodies_are_refused

pub returns-clause-numbers : goal.returns-clause-numbers
returns-clause-numbers c = instances_of_numbers

pub returns-clause-tokens : goal.returns-clause-tokens
returns-clause-tokens c = instances_of_tokens
