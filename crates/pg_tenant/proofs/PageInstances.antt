-- The instances of pages.
use Rattle.std.proofs.Common.{◌≡◌, refl}
use Rattle.std.specs.Fmt.{digits}
use Rattle.serde_json.proofs.OnLiterals.{serde_json_on_literals}
use Rattle.pg_json.specs.Pages.{paged_text, pulled_text}
use Rattle.pg_tenant.specs.InstancesOfPages.{InstancesOfHeldRows, InstancesOfPulls}

pub instances_of_pulls : InstancesOfPulls
unfolding serde_json_on_literals digits pulled_text
instances_of_pulls = (refl, refl, refl, refl, refl, refl, refl, refl, refl, refl, λ text parameters size. refl, refl, refl)

pub instances_of_held_rows : InstancesOfHeldRows
unfolding serde_json_on_literals digits paged_text
instances_of_held_rows = (refl, refl, refl, refl, refl, refl, refl, refl, refl)
