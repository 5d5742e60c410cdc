-- The instances of requests, computed.
use Rattle.std.proofs.Common.{refl}
use Rattle.std.specs.Fmt.{digits}
use Rattle.std.specs.Str.{chars, is_utf8}
use Rattle.serde_json.proofs.OnLiterals.{serde_json_on_literals}
use Rattle.pg_json.specs.InstancesOfRequests.{BodiesAreRequests, BodiesAreRefused, InstancesOfNumbers, InstancesOfTokens}
use Rattle.pg_json.specs.Requests.{meaning}

pub bodies_are_requests : BodiesAreRequests
unfolding serde_json_on_literals digits meaning is_utf8 chars
bodies_are_requests = (refl, refl, refl, refl, refl, refl, refl, refl, refl, refl, refl, refl, refl, refl)

pub bodies_are_refused : BodiesAreRefused
unfolding serde_json_on_literals digits meaning is_utf8 chars
bodies_are_refused = (refl, refl, refl, refl, refl, refl, refl, refl, refl, refl, refl, refl, refl, refl, refl, refl, refl, refl, refl, refl, refl)

pub instances_of_numbers : InstancesOfNumbers
instances_of_numbers = (refl, refl, refl, refl, refl, refl, refl, refl, refl)

pub instances_of_tokens : InstancesOfTokens
instances_of_tokens = (refl, refl, refl, refl, refl, refl, refl)
