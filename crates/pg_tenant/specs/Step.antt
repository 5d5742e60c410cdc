-- What one request does to a tenant, and to all that tenants share.
use Rattle.std.specs.Prelude.{◌≡◌, ◌≢◌, ℕ, Bool, true, false, List, Option, Result, Ok, Err, IfOk, IfErr, slice_set}
use Rattle.pg_json.specs.Refusals.{refusal_text}
use Rattle.pg_json.specs.Requests.{Request, begin, commit, rollback, drop_page}
use Rattle.pg_live.specs.Live.{Live, open_at, pairs_at}
use Rattle.pg_meaning.specs.Value.{Entries}
use Rattle.pg_meaning.specs.declared.fault.Fault.{Fault}
use Rattle.pg_meaning.specs.declared.fault.Fault.TheVariants.{OutOfMemory}
use Rattle.pg_names.specs.Names.{KeepsNames}
use Rattle.pg_plan.specs.declared.plan.Plan.{Plan}
use Rattle.pg_tenant.specs.Answers.{Answered, shown_if_fitting}
use Rattle.pg_tenant.specs.Changes.{IsNoRefusal}
use Rattle.pg_tenant.specs.Listed.{KeepsListed}
use Rattle.pg_tenant.specs.Outcomes.{plan_outcome}
use Rattle.pg_tenant.specs.Settings.{may_write}
use Rattle.pg_tenant.specs.Solo.{Replied, reported, serves, solo, with_answer}
use Rattle.pg_tenant.specs.State.{State}
use Rattle.pg_tenant.specs.TenantStates.{state_over}
use Rattle.pg_tenant.specs.declared.tenant.Tenant.{Tenant}

-- a tenant replies so; where it is refused, which leaves it, that is the refusal, unless memory failed
abbrev pub Gives : State → Replied → Result (List ℕ) Fault → State → Type 0
Gives old replied (Ok bytes) new = (bytes ≡ replied.reply) × (new ≡ replied.state)
Gives old replied (Err e) new = (new ≡ old) × (e ≢ OutOfMemory → (refusal_text e ≡ replied.reply) × (replied.state ≡ old))

abbrev pub Answers : State → Request → Result (List ℕ) Fault → State → Type 0
Answers old request result new = Gives old (solo old request) result new

-- the requests for which no memory is taken once their bodies are read
abbrev pub takes_memory : Request → Bool
takes_memory (begin token) = false
takes_memory (commit token) = false
takes_memory (rollback token) = false
takes_memory (drop_page token page) = false
takes_memory request = true

-- a token's query under a plan, with its parameters, all rows at once or page by page
abbrev pub plan_answered : State → (token : List ℕ) → Plan → (parameters : Entries) → (page : Option ℕ) → Result Answered Fault
plan_answered s token plan parameters page =
    shown_if_fitting s.held s.settings.max_held token page
    (plan_outcome (may_write s.settings token) s.settings.max_steps s.settings.max_elements parameters s.graph plan)

abbrev pub RunsPlan : (token : List ℕ) → Plan → (parameters : Entries) → (page : Option ℕ) → State → Result (List ℕ) Fault → State → Type 0
RunsPlan token plan parameters page old result new =
    Gives old (reported old (with_answer old (plan_answered old token plan parameters page))) result new

-- the text of what is answered
abbrev pub reply_of : Result (List ℕ) Fault → List ℕ
reply_of (Ok bytes) = bytes
reply_of (Err e) = refusal_text e

-- each name keeps its number, and what is refused, whatever the refusal, leaves no name
pub record AddsNames (reply : List ℕ) (old new : List (List ℕ)) : Type 0 where
  pub kept : KeepsNames old new
  pub refused : (fault : Fault) → reply ≡ refusal_text fault → new ≡ old

-- the graphs of all other places stay, what was begun there, and their indexes
pub record KeepsOthers {L : Type 0} (old new : Live L) : Type 0 where
  pub place : new.aside.place ≡ old.aside.place
  pub others : new.aside.others ≡ old.aside.others
  pub begins : new.aside.begins ≡ slice_set old.aside.begins old.aside.place (open_at new.aside)
  pub pairs : new.aside.pairs ≡ slice_set old.aside.pairs old.aside.place (pairs_at new.aside)

-- a request of a tenant that isn't busy, from one tenant and live graph to the others
pub record Serves {L : Type 0} (was now : Tenant) (old new : Live L) (request : Request) (result : Result (List ℕ) Fault) : Type 0 where
  pub answers : Gives (state_over was old) (reported (state_over was old) (serves (state_over was old) request)) result (state_over now new)
  pub names : AddsNames (reply_of result) old.names new.names
  pub others : KeepsOthers old new
  pub listed : KeepsListed was now old new
  pub settings : now.settings ≡ was.settings
  pub memory : takes_memory request ≡ false → IfErr result (λ e. e ≢ OutOfMemory)
  pub accepted : IfOk result IsNoRefusal
