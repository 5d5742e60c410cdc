-- The instances of updates and lengths, computed.
use Rattle.std.proofs.Common.{refl, ap}
use Rattle.std.specs.Prelude.{nat_le}
use Rattle.pg_meaning.specs.Answer.{unless}
use Rattle.pg_meaning.specs.declared.fault.Fault.TheVariants.{TextTooLong}
use Rattle.pg_plan.specs.InstancesOfPlans.{InstancesOfUpdates, InstancesOfLengths}
use Rattle.pg_plan.specs.Reading.{greatest_text}

pub instances_of_updates : InstancesOfUpdates
instances_of_updates = (refl, refl, refl, refl, refl, refl, refl, refl, refl, refl)

pub instances_of_lengths : InstancesOfLengths
instances_of_lengths = ((λ text long. ap (λ n. unless (nat_le n greatest_text) TextTooLong) long), (λ text long. ap (λ n. unless (nat_le n greatest_text) TextTooLong) long))
