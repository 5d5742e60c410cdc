-- The instances of whole bodies and their replies.
use Rattle.std.proofs.Common.{refl}
use Rattle.std.specs.Fmt.{digits}
use Rattle.serde_json.proofs.OnLiterals.{serde_json_on_literals}
use Rattle.pg_json.specs.Requests.{meaning}
use Rattle.pg_meaning.proofs.Computing.{texts}
use Rattle.pg_server.specs.InstancesOfReplies.{InstancesOfReplies}
use Rattle.pg_tenant.specs.Answers.{outcome_text}

pub instances_of_replies : InstancesOfReplies
unfolding serde_json_on_literals digits meaning texts outcome_text
instances_of_replies = (refl, refl, refl, refl, refl)
