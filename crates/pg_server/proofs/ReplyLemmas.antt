-- What holds of each answer: where it is the text for want of memory, it leaves the whole state.
use Rattle.std.proofs.Common.{◌≡◌, true}
use Rattle.std.proofs.lemmas.Slice.Eq.{bytes_eq-Decides}
use Rattle.pg_json.specs.Refusals.{refusal_text}
use Rattle.pg_json.specs.Requests.{Request}
use Rattle.pg_meaning.specs.declared.fault.Fault.TheVariants.{OutOfMemory}
use Rattle.pg_server.specs.Runs.{is_want_of_memory, RefusalsKeep}
use Rattle.pg_tenant.proofs.KeptLemmas.{refusals_leave}
use Rattle.pg_tenant.specs.Solo.{solo}
use Rattle.pg_tenant.specs.State.{State}

pub refusals_keep : RefusalsKeep
refusals_keep = refusals_leave

pub refused_keeps : (state : State) (request : Request) → is_want_of_memory (solo state request).reply ≡ true → (solo state request).state ≡ state
refused_keeps state request h = refusals_keep state request OutOfMemory ((bytes_eq-Decides (solo state request).reply (refusal_text OutOfMemory)).0 h)
