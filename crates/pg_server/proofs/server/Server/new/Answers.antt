use Rattle.std.proofs.Common.{◌≡◌, map, arith, ap, subst, ◌∙◌}
use Rattle.pg_cache.specs.Cache.{cache_seen}
use Rattle.pg_live.specs.Live.{graphs_of}
use Rattle.pg_server.specs.State.{ServerState, fresh_cache}
use Rattle.pg_server.specs.Tenants.{states_of, AreTenants}
use Rattle.pg_server.specs.Tokens.{TellsTenants}
use Rattle.pg_server.proofs.HoldLemmas.{hold_tenants}
use Rattle.pg_server.proofs.TenantLemmas.{opening_tenants_are, opening_states}
use Rattle.pg_tenant.specs.State.{opening}
use Rattle.pg_server.proofs.server.Server.new.Goals as goal

pub new-requires-2 : goal.new-requires-2
new-requires-2 g c = record { some = omega (arith, c.len.ensures, c.into_parts-settings.ensures.some); few = omega (arith, c.len.ensures, c.into_parts-settings.ensures.few) }

pub invariant_of-result : goal.invariant_of-result
invariant_of-result g c =
    opening_tenants_are c.in_ok-tokens.tokens c.in_ok-tenants.tenants.items c.into_parts-settings.result.1.items (graphs_of c.in_ok-graphs.graphs) c.in_ok-graphs.graphs.aside.begins c.in_ok-graphs.graphs.names c.in_ok-graphs.graphs.aside.pairs c.len.result c.in_ok-tenants.ensures (c.len.ensures ∙ c.into_parts-settings.result.1.ok.0)
    c.in_ok-graphs.ensures.graphs c.in_ok-graphs.ensures.begins c.in_ok-graphs.ensures.pairs c.into_parts-settings.ensures.distinct (subst (TellsTenants c.in_ok-tokens.tokens) c.deref.ensures.value c.in_ok-tokens.ensures)

pub returns-clause-state : goal.returns-clause-state
returns-clause-state g c =
    let tenants : states_of c.in_ok-tenants.tenants.items (graphs_of c.in_ok-graphs.graphs) c.in_ok-graphs.graphs.aside.begins ≡ map opening c.args.config.tenants =
    opening_states c.in_ok-tenants.tenants.items c.into_parts-settings.result.1.items (graphs_of c.in_ok-graphs.graphs) c.in_ok-graphs.graphs.aside.begins c.len.result c.in_ok-tenants.ensures c.in_ok-graphs.ensures.graphs c.in_ok-graphs.ensures.begins
    ∙ ap (map opening) c.into_parts-settings.ensures.tenants in
    let cache : cache_seen c.in_ok-cache.cache ≡ fresh_cache c.args.config.cache = ap cache_seen c.in_ok-cache.ensures ∙ ap fresh_cache c.into_parts-settings.ensures.cache in
    λ i. let s : ServerState = record { cache = cache i; names = c.in_ok-graphs.ensures.names i; tenants = tenants i } in s

pub returns-clause-unused : goal.returns-clause-unused
returns-clause-unused g c owner = c.in_ok-graphs.ensures.unused owner

pub returns-clause-tenants : goal.returns-clause-tenants
returns-clause-tenants g c =
    let are : AreTenants c.in_ok-tokens.tokens c.in_ok-tenants.tenants.items (graphs_of c.in_ok-graphs.graphs) c.in_ok-graphs.graphs.aside.begins c.in_ok-graphs.graphs.names c.in_ok-graphs.graphs.aside.pairs =
    opening_tenants_are c.in_ok-tokens.tokens c.in_ok-tenants.tenants.items c.into_parts-settings.result.1.items (graphs_of c.in_ok-graphs.graphs) c.in_ok-graphs.graphs.aside.begins c.in_ok-graphs.graphs.names c.in_ok-graphs.graphs.aside.pairs c.len.result c.in_ok-tenants.ensures (c.len.ensures ∙ c.into_parts-settings.result.1.ok.0)
    c.in_ok-graphs.ensures.graphs c.in_ok-graphs.ensures.begins c.in_ok-graphs.ensures.pairs c.into_parts-settings.ensures.distinct (subst (TellsTenants c.in_ok-tokens.tokens) c.deref.ensures.value c.in_ok-tokens.ensures) in
    hold_tenants g.T.Tables.seen (cache_seen c.in_ok-cache.cache) c.in_ok-tenants.tenants.items c.in_ok-graphs.graphs are.each are.lists c.shared.ensures.held
