use Rattle.std.proofs.Common.{◌<◌, ◌≤◌, length, get_or, ap, subst, sym, ◌∙◌, ◌≡◌}
use Rattle.pg_live.specs.Live.{graphs_of}
use Rattle.pg_server.specs.State.{ServerState, state_at}
use Rattle.pg_server.proofs.HoldLemmas.{state_seen}
use Rattle.pg_server.proofs.TenantLemmas.{settings_of_tenant, settings_of_none}
use Rattle.pg_tenant.specs.Settings.{standing_token}
use Rattle.pg_server.proofs.server.Server.standing_token.Goals as goal

pub returns-in-Some : goal.returns-in-Some
returns-in-Some g c =
    let tenants = c.self.inside.tenants.items in
    let below : c.args.place < length tenants = subst (λ ts. c.args.place < length ts) c.deref.ensures.value c.in-Some.ensures.lookup.3.0 in
    let is : c.in-Some.tenant.now ≡ get_or tenants c.args.place c.in-Some.tenant.now = c.in-Some.ensures.lookup.1 ∙ ap (λ ts. get_or ts c.args.place c.in-Some.tenant.now) c.deref.ensures.value in
    c.standing_token.ensures
    ∙ sym (ap standing_token (settings_of_tenant tenants (graphs_of c.self.inside.graphs) c.self.inside.graphs.aside.begins c.args.place c.in-Some.tenant.now below is))
    ∙ ap (λ (s : ServerState). standing_token (state_at s c.args.place).settings) (ap state_seen c.self.view_is)

pub returns-in-None : goal.returns-in-None
returns-in-None g c =
    let tenants = c.self.inside.tenants.items in
    let past : length tenants ≤ c.args.place = subst (λ ts. length ts ≤ c.args.place) c.deref.ensures.value c.in-None.ensures.lookup.3 in
    sym (ap standing_token (settings_of_none tenants (graphs_of c.self.inside.graphs) c.self.inside.graphs.aside.begins c.args.place past))
    ∙ ap (λ (s : ServerState). standing_token (state_at s c.args.place).settings) (ap state_seen c.self.view_is)
