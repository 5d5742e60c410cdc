-- The instances of printed values, computed.
use Rattle.std.proofs.Common.{refl}
use Rattle.std.specs.Fmt.{digits}
use Rattle.serde_json.proofs.OnLiterals.{serde_json_on_literals}
use Rattle.pg_run.specs.InstancesOfPrinted.{InstancesOfPrinted}

pub instances_of_printed : InstancesOfPrinted
unfolding serde_json_on_literals digits
instances_of_printed = (refl, refl, refl, refl, refl, refl, refl, refl)
