-- What a server is to its callers: what its plan cache shows, the names and the part of the tables that all tenants share, and each tenant's state.
use Rattle.std.specs.Prelude.{ℕ, List, [], map, slice_index_or}
use Rattle.pg_cache.specs.Cache.{CacheSeen}
use Rattle.pg_server.specs.Settings.{Settings}
use Rattle.pg_tenant.specs.Settings.{TenantSettings}
use Rattle.pg_tenant.specs.State.{State, opening, no_state}

-- the names are texts, and a name's number is its place
pub record ServerState : Type 0 where
  pub cache : CacheSeen
  pub names : List (List ℕ)
  pub tenants : List State

-- a server, with the part X that the tables of all tenants share
pub record ServerSeen (X : Type 0) : Type 0 where
  pub state : ServerState
  pub tables : X

-- a cache of so many plans that has none yet
abbrev pub fresh_cache : ℕ → CacheSeen
fresh_cache capacity = record { capacity = capacity; keys = []; hits = 0; misses = 0 }

abbrev pub opening_server : Settings → ServerState
opening_server s = record { cache = fresh_cache s.cache; names = []; tenants = map opening s.tenants }

abbrev pub state_in : List State → ℕ → State
state_in tenants t = slice_index_or tenants t no_state

abbrev pub state_at : ServerState → ℕ → State
state_at server t = state_in server.tenants t

abbrev pub settings_of : ServerState → List TenantSettings
settings_of server = map (λ s. s.settings) server.tenants
