-- The tenants of a server beside the graphs of their places, and beside what was begun there.
use Rattle.std.specs.Prelude.{◌≡◌, ◌<◌, ℕ, List, [], ◌∷◌, false, length, map, drop, slice_index_or, Option, None}
use Rattle.pg_cache.specs.Cache.{CacheSeen}
use Rattle.pg_live.specs.Live.{Begun, Live, graphs_of}
use Rattle.pg_meaning.specs.Graph.{Graph, empty_graph}
use Rattle.pg_server.specs.Settings.{all_tokens}
use Rattle.pg_server.specs.State.{ServerSeen}
use Rattle.pg_server.specs.Tokens.{TellsTenants}
use Rattle.pg_server.specs.declared.tokens.TokenPlaces.{TokenPlaces}
use Rattle.pg_tenant.specs.Indexes.{indexes_of}
use Rattle.pg_tenant.specs.Listed.{AreListed}
use Rattle.pg_tenant.specs.State.{State}
use Rattle.pg_tenant.specs.TenantStates.{state_of}
use Rattle.pg_tenant.specs.declared.tenant.Tenant.{Tenant}
use Rattle.pg_value.specs.Texts.{has_duplicate}

-- each tenant with the graph and the begin of its place
abbrev pub states_of : List Tenant → List Graph → List (Option Begun) → List State
states_of [] graphs begins = []
states_of (t ∷ ts) graphs begins = state_of t (slice_index_or graphs 0 empty_graph) (slice_index_or begins 0 None) ∷ states_of ts (drop 1 graphs) (drop 1 begins)

abbrev pub server_seen : {X : Type 0} → CacheSeen → List Tenant → Live X → ServerSeen X
server_seen cache tenants live =
    record { state = record { cache = cache; names = live.names; tenants = states_of tenants (graphs_of live) live.aside.begins }; tables = live.tables }

-- each tenant lists the indexes of the graph of its place, and no other
pub record AllList (tenants : List Tenant) (names : List (List ℕ)) (pairs : List (List (ℕ × ℕ))) : Type 0 where
  pub each : length pairs ≡ length tenants
  pub listed : (k : ℕ) (d : Tenant) → k < length tenants → AreListed names (indexes_of (slice_index_or tenants k d).indexes) (slice_index_or pairs k [])

-- no two tokens are equal, the map tells whose each is, each tenant has a graph, and a place for what was begun, and lists
-- its graph's indexes
pub record AreTenants (tokens : TokenPlaces) (tenants : List Tenant) (graphs : List Graph) (begins : List (Option Begun)) (names : List (List ℕ)) (pairs : List (List (ℕ × ℕ))) : Type 0 where
  pub distinct : has_duplicate [] (all_tokens (map (λ t. t.settings) tenants)) ≡ false
  pub told : TellsTenants tokens (map (λ t. t.settings) tenants)
  pub each : length graphs ≡ length tenants
  pub each_begun : length begins ≡ length tenants
  pub lists : AllList tenants names pairs
