-- Own, SoloRun and Runs: how exchanges with a server are a run of each tenant alone.
use Rattle.std.specs.Prelude.{◌≡◌, ℕ, ◌⊎◌, Bool, true, false, ◌&&◌, not, nat_le, List, [], ◌∷◌, length, map, filter, Option, Some, None, if◌then◌else◌, bytes_eq}
use Rattle.pg_json.specs.Refusals.{refusal_text}
use Rattle.pg_json.specs.Requests.{Request, token_of, meaning}
use Rattle.pg_meaning.specs.declared.fault.Fault.{Fault}
use Rattle.pg_meaning.specs.declared.fault.Fault.TheVariants.{FrameTooLong, BadRequest, UnknownToken, OutOfMemory}
use Rattle.pg_server.specs.AnsweredQueries.{AnsweredQuery}
use Rattle.pg_server.specs.Exchange.{Exchange, replies_of}
use Rattle.pg_server.specs.Frames.{body_limit}
use Rattle.pg_meaning.specs.Names.{is_among}
use Rattle.pg_server.specs.State.{ServerState, state_at, settings_of}
use Rattle.pg_tenant.specs.Solo.{solo}
use Rattle.pg_tenant.specs.State.{State, tokens_of}

-- ---- one tenant alone

abbrev pub is_short : List ℕ → Bool
is_short body = nat_le (length body) body_limit

-- the request that a body is, where it isn't too long and is one
abbrev pub asked : List ℕ → Option Request
asked body = if is_short body then meaning body else None

-- the request has one of these tokens
abbrev pub shows_one_of : List (List ℕ) → Option Request → Bool
shows_one_of tokens None = false
shows_one_of tokens (Some request) = is_among tokens (token_of request)

abbrev pub is_want_of_memory : List ℕ → Bool
is_want_of_memory reply = bytes_eq reply (refusal_text OutOfMemory)

-- the exchanges of the tenant with these tokens: those that show one of them, without those that were answered by want of memory
abbrev pub own : List (List ℕ) → List Exchange → List Exchange
own tokens es = filter (λ e. shows_one_of tokens (asked e.body) && not (is_want_of_memory e.reply)) es

-- the tenant alone answers these requests with these replies, each query by one that its meaning gives, and ends in this state
abbrev pub SoloRun : State → List Exchange → State → Type 0
SoloRun old [] new = new ≡ old
SoloRun old (e ∷ es) new =
    (request : Request) × (asked e.body ≡ Some request) × (e.reply ≡ (solo old request).reply) × AnsweredQuery old request e.reply (solo old request).state × SoloRun (solo old request).state es new

-- a request that is refused leaves the tenant as it was
abbrev pub RefusalsKeep : Type 0
RefusalsKeep = (state : State) (request : Request) (fault : Fault) → (solo state request).reply ≡ refusal_text fault → (solo state request).state ≡ state

-- ---- requests of no tenant

abbrev pub IsStrangers : ServerState → List ℕ → Type 0
IsStrangers server body = (t : ℕ) → shows_one_of (tokens_of (state_at server t)) (asked body) ≡ false

-- why a body that is no tenant's request is refused
abbrev pub fault_of_request : Option Request → Fault
fault_of_request None = BadRequest
fault_of_request (Some request) = UnknownToken

-- A body that is too long is refused as that. For others there may be no memory.
abbrev pub IsStrangersReply : List ℕ → List ℕ → Type 0
IsStrangersReply body reply =
    (is_short body ≡ false → reply ≡ refusal_text FrameTooLong)
    × (is_short body ≡ true → (reply ≡ refusal_text (fault_of_request (meaning body))) ⊎ (reply ≡ refusal_text OutOfMemory))

abbrev pub AnswersStrangers : ServerState → List Exchange → Type 0
AnswersStrangers server [] = Unit {0}
AnswersStrangers server (e ∷ es) = (IsStrangers server e.body → IsStrangersReply e.body e.reply) × AnswersStrangers server es

-- ---- many tenants

-- the exchanges lead from one state of the server to the other: for each tenant, its own run alone
pub record Runs (old : ServerState) (es : List Exchange) (new : ServerState) : Type 0 where
  pub cache : new.cache.capacity ≡ old.cache.capacity
  pub settings : settings_of new ≡ settings_of old
  pub strangers : AnswersStrangers old es
  pub solo : (t : ℕ) → SoloRun (state_at old t) (own (tokens_of (state_at old t)) es) (state_at new t)

abbrev pub requests_of : List Exchange → List (Option Request)
requests_of es = map (λ e. asked e.body) es

-- Two runs in which a tenant begins alike and sends the same requests, as read and in the same order, answer it alike
-- and leave it alike. What others send, who they are and where their requests stand is free in both.
abbrev pub TwoWorlds : Type 0
TwoWorlds =
    (old new : ServerState) (es : List Exchange) (old' new' : ServerState) (es' : List Exchange) (t t' : ℕ)
    → Runs old es new → Runs old' es' new'
    → state_at old t ≡ state_at old' t'
    → requests_of (own (tokens_of (state_at old t)) es) ≡ requests_of (own (tokens_of (state_at old' t')) es')
    → (replies_of (own (tokens_of (state_at old t)) es) ≡ replies_of (own (tokens_of (state_at old' t')) es')) × (state_at new t ≡ state_at new' t')
