-- What tenants hold over the names and the part of the tables that all of them share.
use Rattle.std.specs.Prelude.{◌≡◌, ℕ, ◌<◌, length, IfSome}
use Rattle.pg_graph.specs.Content.{Seen}
use Rattle.pg_live.specs.Held.{GoesBackTo}
use Rattle.pg_server.specs.State.{ServerSeen, state_at}
use Rattle.pg_store.specs.Stores.{graph_of_store, index_pairs, IsFit}
use Rattle.pg_store.specs.declared.shared.Shared.{Shared}
use Rattle.pg_store.specs.declared.store.Store.{Store}
use Rattle.pg_tenant.specs.Listed.{AreListed}

-- what the stores of all tenants share, whatever set K keeps the texts of the names: nothing is said of it
abbrev pub shared_of : {X K : Type 0} → ServerSeen X → Shared X K
shared_of server = record { names = server.state.names; tables = server.tables }

-- The tenant at this place holds its graph in a store of that owner over these names and this part of the tables: the names in it are numbers of
-- these names, and read as their texts it is the tenant's graph.
pub record HoldsTenant {T S : Type 0} (seen : Seen T S) (server : ServerSeen S) (place : ℕ) : Type 0 where
  pub store : Store T
  pub own : seen.owner store.tables ≡ place
  pub fit : IsFit seen store (shared_of {K = Unit {0}} server)
  pub graph : graph_of_store seen store (shared_of {K = Unit {0}} server) ≡ (state_at server.state place).graph
  -- and that of the begin of the open transaction is one that the store can be taken back to
  pub back : IfSome (state_at server.state place).transaction (λ t. GoesBackTo seen store (shared_of {K = Unit {0}} server) t.begun)
  -- and the tenant lists the store's indexes, and no other
  pub listed : AreListed server.state.names (state_at server.state place).indexes (index_pairs store)

abbrev pub HoldTenants : {T S : Type 0} → Seen T S → ServerSeen S → Type 0
HoldTenants seen server = (place : ℕ) → place < length server.state.tenants → HoldsTenant seen server place
