use Rattle.pg_json.proofs.ReplyInstances.{instances_of_rows, instances_of_statuses, refusals_are_told}
use Rattle.pg_json.proofs.instances.instances_of_replies.Goals as goal

pub returns-clause-refusals : goal.returns-clause-refusals
returns-clause-refusals c = refusals_are_told

pub returns-clause-statuses : goal.returns-clause-statuses
returns-clause-statuses c = instances_of_statuses

pub returns-clause-rows : goal.returns-clause-rows
returns-clause-rows c = instances_of_rows
