-- The instances of replies.
use Rattle.std.proofs.Common.{ℕ, List, cond, Result, Ok, Err, refl, ap, ◌∙◌}
use Rattle.std.specs.Fmt.{digits}
use Rattle.std.specs.Prelude.{nat_le}
use Rattle.serde_json.proofs.OnLiterals.{serde_json_on_literals}
use Rattle.pg_json.specs.Refusals.{refusal_text, done_text}
use Rattle.pg_json.specs.Replies.{max_reply}
use Rattle.pg_meaning.specs.declared.fault.Fault.{Fault}
use Rattle.pg_meaning.specs.declared.fault.Fault.TheVariants.{ReplyTooLong}
use Rattle.pg_tenant.specs.Changes.{is_update}
use Rattle.pg_tenant.specs.InstancesOfTenants.{InstancesOfChanges, InstancesOfReplies}
use Rattle.pg_tenant.specs.Solo.{status_text}

abbrev by_length : List ℕ → (length : ℕ) → Result (List ℕ) Fault
by_length reply n = cond (nat_le n max_reply) (Ok reply) (Err ReplyTooLong)

pub instances_of_replies : InstancesOfReplies
unfolding serde_json_on_literals digits status_text refusal_text done_text
instances_of_replies = (refl, refl, refl, (λ reply long. ap (by_length reply) long), (λ reply long. ap (by_length reply) long))

pub instances_of_changes : InstancesOfChanges
instances_of_changes token text parameters size q is = (λ h. ap is_update is ∙ h, λ h. ap is_update is ∙ h, refl, refl, refl)
