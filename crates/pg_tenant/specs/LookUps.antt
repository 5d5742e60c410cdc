-- What a tenant's request looks up in the cache of plans, and what it finds.
use Rattle.std.specs.Prelude.{◌≡◌, ◌≢◌, ◌≤◌, ℕ, ◌⊎◌, nat_le, List, length, Option, Some, None, is_some, ◌&&◌, Result, Err, IfOk, IfErr, OnOk, if◌then◌else◌}
use Rattle.std.specs.declared.alloc.Global.{Global}
use Rattle.std.specs.declared.rc.Rc.{Rc}
use Rattle.pg_cache.specs.Cache.{CacheSeen, IsLookUp, Key}
use Rattle.pg_json.specs.Refusals.{refusal_text}
use Rattle.pg_json.specs.Requests.{Request, query, token_of}
use Rattle.pg_meaning.specs.Plans.{Catalogue}
use Rattle.pg_meaning.specs.declared.fault.Fault.{Fault}
use Rattle.pg_meaning.specs.declared.fault.Fault.TheVariants.{OutOfMemory}
use Rattle.pg_plan.specs.Plans.{IsPlanOfText}
use Rattle.pg_plan.specs.Reading.{greatest_text}
use Rattle.pg_plan.specs.declared.plan.Plan.{Plan}
use Rattle.pg_tenant.specs.Outcomes.{text_query}
use Rattle.pg_tenant.specs.Solo.{is_busy}
use Rattle.pg_tenant.specs.State.{State, is_open}

-- a text that isn't too long, with the tenant's indexes
abbrev pub key_of_text : (text : List ℕ) → Catalogue → Option Key
key_of_text text indexes = if nat_le (length text) greatest_text then Some (text, indexes) else None

-- the text of a query, unless it asks for pages in a transaction
abbrev pub text_key : State → Request → Option Key
text_key s (query token text parameters page) = if is_open s && is_some page then None else key_of_text text s.indexes
text_key s request = None

-- nothing where another token has a transaction open
abbrev pub looked_up_key : State → Request → Option Key
looked_up_key s request = if is_busy s.transaction (token_of request) then None else text_key s request

-- the key is looked up once; or not at all, where there was no memory for that. Nothing else changes the cache
abbrev pub LooksUp : Option Key → (reply : List ℕ) → (old new : CacheSeen) → Type 0
LooksUp None reply old new = new ≡ old
LooksUp (Some key) reply old new = IsLookUp old new key ⊎ ((reply ≡ refusal_text OutOfMemory) × (new ≡ old))

-- the plan of a text for these indexes, or why there is none; whatever the reply is then, it is the text of that refusal
pub record FindsPlan (text : List ℕ) (indexes : Catalogue) (result : Result (Rc Plan Global) Fault) (old new : CacheSeen) : Type 0 where
  pub short : OnOk result (length text ≤ greatest_text)
  pub ok : IfOk result (λ plan. IsPlanOfText text indexes plan.value)
  pub err : IfErr result (λ e. e ≢ OutOfMemory → text_query text ≡ Err e)
  pub cache : (reply : List ℕ) → IfErr result (λ e. reply ≡ refusal_text e) → LooksUp (key_of_text text indexes) reply old new
