-- The instances of requests, of openings, and of what is answered to no tenant's requests.
use Rattle.std.proofs.Common.{◌≡◌, ℕ, zero, suc, List, true, false, cond, Option, Some, None, refl, ap, ◌∙◌, inl, inr}
use Rattle.std.specs.Prelude.{◌⊎◌, codes}
use Rattle.pg_json.specs.Refusals.{refusal_text}
use Rattle.pg_json.specs.Requests.{Request, status, meaning}
use Rattle.pg_meaning.specs.Names.{is_among}
use Rattle.pg_meaning.specs.declared.fault.Fault.TheVariants.{FrameTooLong, OutOfMemory}
use Rattle.pg_server.specs.InstancesOfRequests.{InstancesOfRequests, InstancesOfPages, InstancesOfOpenings, StrangersAreRefused}
use Rattle.pg_server.specs.InstancesOfRuns.{one_reader, told}
use Rattle.pg_server.specs.Runs.{Runs, asked, is_short, shows_one_of, fault_of_request}
use Rattle.pg_server.specs.State.{ServerState, state_at}
use Rattle.pg_tenant.specs.State.{tokens_of}

pub instances_of_requests : InstancesOfRequests
instances_of_requests = (refl, refl, refl, refl, refl, refl, refl, refl, refl, refl, refl, refl, refl, refl, refl, refl)

pub instances_of_pages : InstancesOfPages
instances_of_pages = (refl, refl, refl, refl, refl, refl, refl, refl, refl, refl, refl, refl, refl, refl)

pub instances_of_openings : InstancesOfOpenings
instances_of_openings = (refl, refl, refl, refl, refl)

-- ---- requests of no tenant

unknown : (t : ℕ) → is_among (tokens_of (state_at one_reader t)) (codes "b") ≡ false
unknown zero = refl
unknown (suc t) = refl

module _ (body reply : List ℕ) (new : ServerState) (run : Runs one_reader (told body reply) new) where
  too_long : is_short body ≡ false → reply ≡ refusal_text FrameTooLong
  too_long long =
      let nothing : asked body ≡ None = ap (λ b. cond b (meaning body) None) long in
      (run.strangers.0 (λ t. ap (shows_one_of (tokens_of (state_at one_reader t))) nothing)).0 long

  refused_as : (request : Option Request) → asked body ≡ request → ((t : ℕ) → shows_one_of (tokens_of (state_at one_reader t)) request ≡ false) → is_short body ≡ true → meaning body ≡ request
      → (reply ≡ refusal_text (fault_of_request request)) ⊎ (reply ≡ refusal_text OutOfMemory)
  refused_as request asks none short is =
      elim ((run.strangers.0 (λ t. ap (shows_one_of (tokens_of (state_at one_reader t))) asks ∙ none t)).1 short) [
        | inl r ↦ inl (r ∙ ap (λ m. refusal_text (fault_of_request m)) is)
        | inr r ↦ inr r
      ]

  asks_as : (request : Option Request) → is_short body ≡ true → meaning body ≡ request → asked body ≡ request
  asks_as request short is = ap (λ b. cond b (meaning body) None) short ∙ is

pub strangers_are_refused : StrangersAreRefused
strangers_are_refused body reply new run = (
  too_long body reply new run,
  (λ short is. refused_as body reply new run None (asks_as body reply new run None short is) (λ t. refl) short is),
  (λ short is. let request = Some (status (codes "b")) in refused_as body reply new run request (asks_as body reply new run request short is) unknown short is),
)
