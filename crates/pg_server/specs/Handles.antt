-- Handles: what one call of `handle` does, to each tenant and to the plans and names that all tenants share.
use Rattle.std.specs.Prelude.{◌≡◌, ◌≢◌, ◌⊎◌, ℕ, ◌==◌, Bool, true, false, List, [], ◌∷◌, Option, Some, None, option_and_then, unwrap_or, if◌then◌else◌}
use Rattle.pg_cache.specs.Cache.{Key}
use Rattle.pg_json.specs.Refusals.{refusal_text}
use Rattle.pg_json.specs.Requests.{Request, meaning, token_of, with_token}
use Rattle.pg_meaning.specs.declared.fault.Fault.{Fault}
use Rattle.pg_meaning.specs.declared.fault.Fault.TheVariants.{BadRequest, FrameTooLong, OutOfMemory}
use Rattle.pg_server.specs.Exchange.{Exchange, Chain}
use Rattle.pg_server.specs.Runs.{Runs, asked, is_short}
use Rattle.pg_server.specs.State.{ServerState, state_in}
use Rattle.pg_server.specs.Step.{Answers, place_of}
use Rattle.pg_tenant.specs.Holders.{holder_of}
use Rattle.pg_tenant.specs.LookUps.{LooksUp, looked_up_key}
use Rattle.pg_tenant.specs.Settings.{standing_token}
use Rattle.pg_tenant.specs.State.{State}
use Rattle.pg_tenant.specs.Step.{AddsNames}

-- what a request looks up in the cache of plans: what it does for the tenant that has its token
abbrev pub key_at : ℕ → List State → Request → Option Key
key_at t tenants request = looked_up_key (state_in tenants t) request

abbrev pub key_asked : List State → Request → Option Key
key_asked tenants request = option_and_then (λ t. key_at t tenants request) (place_of (token_of request) tenants)

-- the place of the tenant whose token a body shows
abbrev pub tenant_asked : List State → List ℕ → Option ℕ
tenant_asked tenants body = option_and_then (λ request. place_of (token_of request) tenants) (asked body)

-- the request that a body is
abbrev pub IsRead : List ℕ → Request → Type 0
IsRead body request = (is_short body ≡ true) × (meaning body ≡ Some request)

-- why none was read: the body is too long, or it is no request, or there was no memory
abbrev pub IsUnread : List ℕ → Fault → Type 0
IsUnread body fault =
    ((is_short body ≡ false) × (fault ≡ FrameTooLong)) ⊎ ((is_short body ≡ true) × (fault ≢ OutOfMemory → (fault ≡ BadRequest) × (meaning body ≡ None)))

pub record Handles (old : ServerState) (body reply : List ℕ) (new : ServerState) : Type 0 where
  pub run : Runs old (record { body = body; reply = reply } ∷ []) new
  pub cache : LooksUp (option_and_then (key_asked old.tenants) (asked body)) reply old.cache new.cache
  pub names : AddsNames reply old.names new.names

-- ---- for a tenant that is known otherwise than by a token

abbrev pub is_at : ℕ → Option ℕ → Bool
is_at t None = false
is_at t (Some place) = place == t

-- this token, where it is one of the tenant at a place, or else the one that stands for that tenant
abbrev pub own_token : ℕ → List State → (token : List ℕ) → List ℕ
own_token t tenants token =
    if is_at t (place_of token tenants) then token else standing_token (state_in tenants t).settings

-- the token with which the tenant at a place asks a request: the one that holds the transaction or the page with which it goes on, or else its own
abbrev pub token_for : ℕ → List State → Request → List ℕ
token_for t tenants request =
    unwrap_or (holder_of (state_in tenants t) request) (own_token t tenants (token_of request))

-- the request as the tenant at a place asks it
abbrev pub request_for : ℕ → List State → Request → Request
request_for t tenants request = with_token (token_for t tenants request) request

-- what a request that was read does
pub record Asks (old : ServerState) (request : Request) (reply : List ℕ) (new : ServerState) : Type 0 where
  pub tenants : Answers old.tenants request reply new.tenants
  pub cache : LooksUp (key_asked old.tenants request) reply old.cache new.cache
  pub names : AddsNames reply old.names new.names

-- so it is of the request as the tenant at a place asks it, unless there was no memory
abbrev pub AsksFor : ℕ → ServerState → Request → List ℕ → ServerState → Type 0
AsksFor t old request reply new = ((reply ≡ refusal_text OutOfMemory) × (new ≡ old)) ⊎ Asks old (request_for t old.tenants request) reply new

-- A body is answered for the tenant at a place: a request that has the token with which that tenant asks it, and what is no request, as by `handle`; another request as that tenant asks it.
pub record HandlesFor (t : ℕ) (old : ServerState) (body reply : List ℕ) (new : ServerState) : Type 0 where
  pub own : (request : Request) → asked body ≡ Some request → token_for t old.tenants request ≡ token_of request → Handles old body reply new
  pub unread : asked body ≡ None → Handles old body reply new
  pub asks : (request : Request) → asked body ≡ Some request → AsksFor t old request reply new

-- a reply that is the text of a refusal, whichever it is, leaves every tenant and the names as they were
abbrev pub RefusalsKeepAll : Type 0
RefusalsKeepAll = (old new : ServerState) (body : List ℕ) (fault : Fault) → Handles old body (refusal_text fault) new → (new.tenants ≡ old.tenants) × (new.names ≡ old.names)

-- calls of `handle`, one after another, are runs of each tenant alone
abbrev pub CallsAreRuns : Type 0
CallsAreRuns = (old new : ServerState) (es : List Exchange) → Chain Handles old es new → Runs old es new
