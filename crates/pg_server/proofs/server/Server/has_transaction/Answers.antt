use Rattle.std.proofs.Common.{is_some, ap, ◌∙◌}
use Rattle.pg_live.specs.Live.{graphs_of}
use Rattle.pg_server.specs.State.{ServerState, state_at}
use Rattle.pg_server.proofs.HoldLemmas.{state_seen}
use Rattle.pg_server.proofs.TenantLemmas.{open_seen}
use Rattle.pg_tenant.specs.State.{is_open}
use Rattle.pg_server.proofs.server.Server.has_transaction.Goals as goal

pub returns : goal.returns
returns g c =
    c.is_some.ensures ∙ ap is_some c.holder_at.ensures ∙ open_seen c.self.inside.tenants.items (graphs_of c.self.inside.graphs) c.self.inside.graphs.aside.begins c.args.place c.self.invariant.each_begun
    ∙ ap (λ (s : ServerState). is_open (state_at s c.args.place)) (ap state_seen c.self.view_is)
