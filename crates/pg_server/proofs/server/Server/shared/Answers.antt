use Rattle.std.proofs.Common.{ap, subst, ◌∙◌}
use Rattle.pg_cache.specs.Cache.{cache_seen}
use Rattle.pg_server.specs.Holds.{HoldTenants, shared_of}
use Rattle.pg_server.specs.State.{ServerState}
use Rattle.pg_server.proofs.HoldLemmas.{hold_tenants, state_seen}
use Rattle.pg_server.proofs.server.Server.shared.Goals as goal

pub returns-clause-cache : goal.returns-clause-cache
returns-clause-cache g c = ap (λ (s : ServerState). s.cache) (ap state_seen c.self.view_is)

pub returns-clause-stores : goal.returns-clause-stores
returns-clause-stores g c = c.shared.ensures.is ∙ ap shared_of c.self.view_is

pub returns-clause-tenants : goal.returns-clause-tenants
returns-clause-tenants g c =
    subst (HoldTenants g.T.Tables.seen) c.self.view_is
    (hold_tenants g.T.Tables.seen (cache_seen c.self.inside.cache) c.self.inside.tenants.items c.self.inside.graphs c.self.invariant.each c.self.invariant.lists c.shared.ensures.held)
