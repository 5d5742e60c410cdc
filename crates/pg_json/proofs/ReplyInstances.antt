-- The instances of replies, computed.
use Rattle.std.proofs.Common.{refl}
use Rattle.std.specs.Fmt.{digits}
use Rattle.serde_json.proofs.OnLiterals.{serde_json_on_literals}
use Rattle.pg_json.specs.InstancesOfReplies.{RefusalsAreTold, InstancesOfStatuses, InstancesOfRows}
use Rattle.pg_json.specs.Pages.{paged_text, pulled_text}
use Rattle.pg_json.specs.Refusals.{refusal_text, done_text}
use Rattle.pg_json.specs.Rows.{rows_text}

pub refusals_are_told : RefusalsAreTold
unfolding serde_json_on_literals digits refusal_text done_text
refusals_are_told = (refl, refl, refl, refl, refl, refl, refl, refl, refl, refl, refl, refl, refl, refl, refl, refl, refl, refl, refl, refl, refl, refl, refl, refl, refl, refl, refl, refl, refl, refl, refl, refl, refl, refl, refl, refl, refl, refl)

pub instances_of_statuses : InstancesOfStatuses
unfolding serde_json_on_literals digits
instances_of_statuses = (refl, refl, refl, refl)

pub instances_of_rows : InstancesOfRows
unfolding serde_json_on_literals digits rows_text paged_text pulled_text
instances_of_rows = (refl, refl, refl, refl, refl, refl, refl, refl, refl, refl, refl)
