use Rattle.std.proofs.Common.{ap, sym, ◌∙◌}
use Rattle.pg_live.specs.Live.{graphs_of}
use Rattle.pg_server.specs.State.{ServerState}
use Rattle.pg_server.specs.Step.{place_of}
use Rattle.pg_server.proofs.TenantLemmas.{place_seen}
use Rattle.pg_server.proofs.HoldLemmas.{state_seen}
use Rattle.pg_server.proofs.server.Server.place.Goals as goal

pub returns : goal.returns
returns g c =
    c.place.ensures ∙ c.self.invariant.told c.args.token.now ∙ sym (place_seen c.args.token.now c.self.inside.tenants.items (graphs_of c.self.inside.graphs) c.self.inside.graphs.aside.begins)
    ∙ ap (λ (s : ServerState). place_of c.args.token.now s.tenants) (ap state_seen c.self.view_is)
