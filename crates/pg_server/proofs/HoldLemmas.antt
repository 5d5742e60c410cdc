-- What a server shows of its tenants: each holds its graph, and that of an open transaction's begin, over the names and the part of the tables that it shows.
use Rattle.std.proofs.Common.{◌≡◌, ◌<◌, List, length, get_or, arith, subst, sym, ◌∙◌}
use Rattle.pg_cache.specs.Cache.{CacheSeen}
use Rattle.pg_graph.specs.Content.{Seen}
use Rattle.pg_live.specs.Held.{GoesBackTo, HoldGraphs}
use Rattle.pg_live.specs.Live.{Live, graphs_of}
use Rattle.pg_server.specs.Holds.{HoldTenants, shared_of}
use Rattle.pg_server.specs.State.{ServerState, ServerSeen}
use Rattle.pg_server.specs.Tenants.{server_seen, AllList}
use Rattle.pg_server.proofs.TenantLemmas.{begun_found, graph_found, length_states, list_found}
use Rattle.pg_store.specs.Stores.{index_pairs}
use Rattle.pg_tenant.specs.Indexes.{indexes_of}
use Rattle.pg_tenant.specs.Listed.{AreListed}
use Rattle.pg_tenant.specs.declared.tenant.Tenant.{Tenant}

abbrev pub state_seen : {X : Type 0} → ServerSeen X → ServerState
state_seen s = s.state

pub hold_tenants : {T S : Type 0} (seen : Seen T S) (cache : CacheSeen) (tenants : List Tenant) (live : Live S) → length (graphs_of live) ≡ length tenants → AllList tenants live.names live.aside.pairs → HoldGraphs seen live
    → HoldTenants seen (server_seen cache tenants live)
hold_tenants seen cache tenants live each lists hold k lt =
    let below : k < length tenants = omega (arith, lt, length_states tenants (graphs_of live) live.aside.begins) in
    let held = hold k (omega (arith, below, each)) in
    let shared = shared_of {K = Unit {0}} (server_seen cache tenants live) in
    record {
      store = held.store;
      own = held.own;
      fit = held.fit;
      graph = held.graph ∙ graph_found tenants (graphs_of live) live.aside.begins k below;
      back = begun_found (λ g. GoesBackTo seen held.store shared g) tenants (graphs_of live) live.aside.begins k below held.back;
      listed = list_found (λ is. AreListed live.names is (index_pairs held.store)) tenants (graphs_of live) live.aside.begins k below
          (λ d. subst (AreListed live.names (indexes_of (get_or tenants k d).indexes)) (sym held.indexes) (lists.listed k d below));
    }
