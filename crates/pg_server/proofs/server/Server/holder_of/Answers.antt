use Rattle.std.proofs.Common.{◌≡◌, ◌<◌, ◌≤◌, None, length, get_or, ap, subst, sym, ◌∙◌}
use Rattle.pg_json.specs.Bodies.{request_view}
use Rattle.pg_live.specs.Live.{graphs_of}
use Rattle.pg_meaning.specs.Graph.{empty_graph}
use Rattle.pg_server.specs.State.{ServerState, state_at}
use Rattle.pg_server.proofs.HoldLemmas.{state_seen}
use Rattle.pg_server.proofs.TenantLemmas.{state_found, state_past}
use Rattle.pg_tenant.proofs.HolderLemmas.{none_holds}
use Rattle.pg_tenant.specs.Holders.{holder_of}
use Rattle.pg_server.proofs.server.Server.holder_of.Goals as goal

pub returns-in-Some : goal.returns-in-Some
returns-in-Some g c =
    let tenants = c.self.inside.tenants.items in
    let graphs = graphs_of c.self.inside.graphs in
    let begins = c.self.inside.graphs.aside.begins in
    let asked = request_view c.args.request.now in
    let below : c.args.place < length tenants = subst (λ ts. c.args.place < length ts) c.deref.ensures.value c.in-Some.ensures.lookup.3.0 in
    let is : c.in-Some.tenant.now ≡ get_or tenants c.args.place c.in-Some.tenant.now = c.in-Some.ensures.lookup.1 ∙ ap (λ ts. get_or ts c.args.place c.in-Some.tenant.now) c.deref.ensures.value in
    c.holder_of.ensures (get_or graphs c.args.place empty_graph) (get_or begins c.args.place None) c.holder_at.ensures
    ∙ ap (λ s. holder_of s asked) (state_found tenants graphs begins c.args.place c.in-Some.tenant.now below is)
    ∙ ap (λ (s : ServerState). holder_of (state_at s c.args.place) asked) (ap state_seen c.self.view_is)

pub returns-in-None : goal.returns-in-None
returns-in-None g c =
    let tenants = c.self.inside.tenants.items in
    let asked = request_view c.args.request.now in
    let past : length tenants ≤ c.args.place = subst (λ ts. length ts ≤ c.args.place) c.deref.ensures.value c.in-None.ensures.lookup.3 in
    none_holds asked
    ∙ ap (λ s. holder_of s asked) (sym (state_past tenants (graphs_of c.self.inside.graphs) c.self.inside.graphs.aside.begins c.args.place past))
    ∙ ap (λ (s : ServerState). holder_of (state_at s c.args.place) asked) (ap state_seen c.self.view_is)
