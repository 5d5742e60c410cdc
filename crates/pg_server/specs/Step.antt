-- What one request does to a server, by the place of the tenant that has its token.
use Rattle.std.specs.Prelude.{◌≡◌, ◌≢◌, ℕ, ◌⊎◌, List, Option, Some, None, Result, Ok, Err, position, slice_set}
use Rattle.pg_json.specs.Refusals.{refusal_text}
use Rattle.pg_json.specs.Requests.{Request, token_of}
use Rattle.pg_meaning.specs.Names.{is_among}
use Rattle.pg_meaning.specs.declared.fault.Fault.{Fault}
use Rattle.pg_meaning.specs.declared.fault.Fault.TheVariants.{UnknownToken, OutOfMemory}
use Rattle.pg_server.specs.State.{state_in}
use Rattle.pg_tenant.specs.Solo.{Replied, solo}
use Rattle.pg_tenant.specs.State.{State, tokens_of}

abbrev pub place_of : List ℕ → List State → Option ℕ
place_of token tenants = position (λ s. is_among (tokens_of s) token) tenants

abbrev pub StepAt : Option ℕ → List State → Request → List ℕ → List State → Type 0
StepAt None old request reply new = (reply ≡ refusal_text UnknownToken) × (new ≡ old)
StepAt (Some t) old request reply new =
    ((reply ≡ refusal_text OutOfMemory) × (new ≡ old))
    ⊎ ((reply ≡ (solo (state_in old t) request).reply) × (new ≡ slice_set old t (solo (state_in old t) request).state))

abbrev pub Answers : List State → Request → List ℕ → List State → Type 0
Answers old request reply new = StepAt (place_of (token_of request) old) old request reply new

-- ---- the parts of a step

-- one tenant replies so; where it is refused, which leaves all tenants, that is the refusal, unless memory failed
abbrev pub Gives : List State → ℕ → Replied → Result (List ℕ) Fault → List State → Type 0
Gives old t replied (Ok bytes) new = (bytes ≡ replied.reply) × (new ≡ slice_set old t replied.state)
Gives old t replied (Err e) new = (new ≡ old) × (e ≢ OutOfMemory → (refusal_text e ≡ replied.reply) × (replied.state ≡ state_in old t))

abbrev pub RepliesAt : ℕ → List State → Request → Result (List ℕ) Fault → List State → Type 0
RepliesAt t old request result new = Gives old t (solo (state_in old t) request) result new
