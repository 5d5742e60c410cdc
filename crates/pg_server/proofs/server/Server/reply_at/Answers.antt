use Rattle.std.proofs.Common.{◌<◌, length, set, arith, ap, subst, sym, ◌∙◌}
use Rattle.pg_cache.specs.Cache.{cache_seen}
use Rattle.pg_json.specs.Bodies.{request_view}
use Rattle.pg_live.specs.Live.{graphs_of}
use Rattle.pg_server.specs.Handles.{key_at}
use Rattle.pg_server.specs.State.{ServerState}
use Rattle.pg_server.specs.Step.{RepliesAt}
use Rattle.pg_server.specs.Tenants.{states_of}
use Rattle.pg_server.proofs.HoldLemmas.{state_seen}
use Rattle.pg_server.proofs.TenantLemmas.{is_tenant}
use Rattle.pg_server.proofs.TurnLemmas.{all_list, is_place, key_here, replies, still}
use Rattle.pg_tenant.specs.Changes.{reply_in}
use Rattle.pg_tenant.specs.LookUps.{LooksUp}
use Rattle.pg_tenant.specs.Step.{AddsNames, reply_of}
use Rattle.pg_server.proofs.server.Server.reply_at.Goals as goal

pub invariant_of-self : goal.invariant_of-self
invariant_of-self g c =
    let tenants = c.self.inside.tenants.items in
    let live = c.self.inside.graphs in
    let lt : c.args.place < length tenants = is_tenant tenants (graphs_of live) live.aside.begins c.args.self.now.state.tenants c.args.place (ap (λ (s : ServerState). s.tenants) (ap state_seen c.self.view_is)) c.requires in
    still tenants live c.turn_to.new.self c.args.place c.index_mut.result.now lt c.index_mut.ensures.value c.self.invariant.each c.turn_to.ensures.graphs c.turn_to.ensures.begins c.turn_to.ensures.place
    c.answer.new.self c.answer.new.live c.answer.ensures.others c.self.inside.tokens c.answer.ensures.settings
    (all_list tenants live c.turn_to.new.self c.args.place c.index_mut.result.now lt c.index_mut.ensures.value c.self.invariant.each c.turn_to.ensures.graphs c.turn_to.ensures.begins c.turn_to.ensures.place
    c.answer.new.self c.answer.new.live c.answer.ensures.others c.turn_to.ensures.pairs c.turn_to.ensures.names c.answer.ensures.names.kept c.answer.ensures.listed c.self.invariant.lists)
    c.self.invariant

pub returns-clause-tenants : goal.returns-clause-tenants
returns-clause-tenants g c =
    let tenants = c.self.inside.tenants.items in
    let live = c.self.inside.graphs in
    let lt : c.args.place < length tenants = is_tenant tenants (graphs_of live) live.aside.begins c.args.self.now.state.tenants c.args.place (ap (λ (s : ServerState). s.tenants) (ap state_seen c.self.view_is)) c.requires in
    subst (λ (s : ServerState). RepliesAt c.args.place s.tenants (request_view c.args.request) (reply_in c.answer.result) (states_of (set tenants c.args.place c.answer.new.self) (graphs_of c.answer.new.live) c.answer.new.live.aside.begins))
    (ap state_seen c.self.view_is)
    (replies tenants live c.turn_to.new.self c.args.place c.index_mut.result.now lt c.index_mut.ensures.value c.self.invariant.each c.turn_to.ensures.graphs c.turn_to.ensures.begins c.turn_to.ensures.place
    c.answer.new.self c.answer.new.live c.answer.ensures.others (request_view c.args.request) (reply_in c.answer.result) c.self.invariant.each_begun c.answer.ensures.answers)

pub returns-clause-cache : goal.returns-clause-cache
returns-clause-cache g c =
    let tenants = c.self.inside.tenants.items in
    let live = c.self.inside.graphs in
    let lt : c.args.place < length tenants = is_tenant tenants (graphs_of live) live.aside.begins c.args.self.now.state.tenants c.args.place (ap (λ (s : ServerState). s.tenants) (ap state_seen c.self.view_is)) c.requires in
    subst (λ (s : ServerState). LooksUp (key_at c.args.place s.tenants (request_view c.args.request)) (reply_of (reply_in c.answer.result)) s.cache (cache_seen c.answer.new.cache)) (ap state_seen c.self.view_is)
    (key_here tenants live c.turn_to.new.self c.args.place c.index_mut.result.now lt c.index_mut.ensures.value c.self.invariant.each c.turn_to.ensures.graphs c.turn_to.ensures.begins c.turn_to.ensures.place
    (request_view c.args.request) (reply_of (reply_in c.answer.result)) (cache_seen c.self.inside.cache) (cache_seen c.answer.new.cache) c.answer.ensures.cache)

pub returns-clause-names : goal.returns-clause-names
returns-clause-names g c =
    let before = c.turn_to.ensures.names ∙ ap (λ (s : ServerState). s.names) (ap state_seen c.self.view_is) in
    subst (λ names. AddsNames (reply_of (reply_in c.answer.result)) names c.answer.new.live.names) before c.answer.ensures.names

pub turn_to-requires : goal.turn_to-requires
turn_to-requires g c =
    let tenants = c.self.inside.tenants.items in
    let live = c.self.inside.graphs in
    let lt : c.args.place < length tenants = is_tenant tenants (graphs_of live) live.aside.begins c.args.self.now.state.tenants c.args.place (ap (λ (s : ServerState). s.tenants) (ap state_seen c.self.view_is)) c.requires in
    is_place c.self.inside.graphs c.args.place (omega (arith, lt, c.self.invariant.each))

pub index_mut-requires : goal.index_mut-requires
index_mut-requires g c =
    subst (λ n. c.args.place < n) (sym c.self.inside.tenants.ok.0)
    (is_tenant c.self.inside.tenants.items (graphs_of c.self.inside.graphs) c.self.inside.graphs.aside.begins c.args.self.now.state.tenants c.args.place (ap (λ (s : ServerState). s.tenants) (ap state_seen c.self.view_is)) c.requires)
