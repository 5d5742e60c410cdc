use Rattle.std.proofs.Common.{◌≡◌, Some, None, ℕ, List, is_some, ap, subst, sym, ◌∙◌}
use Rattle.std.specs.Prelude.{IfSome, option_and_then}
use Rattle.pg_json.specs.Bodies.{request_view}
use Rattle.pg_json.specs.Requests.{token_of}
use Rattle.pg_live.specs.Live.{graphs_of}
use Rattle.pg_server.specs.Handles.{key_at}
use Rattle.pg_server.specs.State.{ServerState}
use Rattle.pg_server.specs.Step.{StepAt, place_of}
use Rattle.pg_server.specs.Tokens.{place_in}
use Rattle.pg_meaning.specs.declared.fault.Fault.TheVariants.{UnknownToken}
use Rattle.pg_server.proofs.ChangeLemmas.{refusal_noted, placed}
use Rattle.pg_server.proofs.NameLemmas.{names_stay}
use Rattle.pg_server.proofs.StepLemmas.{place_below}
use Rattle.pg_server.proofs.TenantLemmas.{place_seen}
use Rattle.pg_server.proofs.HoldLemmas.{state_seen}
use Rattle.pg_tenant.specs.LookUps.{LooksUp}
use Rattle.pg_server.proofs.server.Server.answer_request.Goals as goal

pub answer_at-requires : goal.answer_at-requires
answer_at-requires g c =
    let asked : List ℕ = token_of (request_view c.args.request) in
    let found : place_of asked c.args.self.now.state.tenants ≡ Some c.in-Some.place =
    ap (λ (s : ServerState). place_of asked s.tenants) (sym (ap state_seen c.self.view_is)) ∙ place_seen asked c.self.inside.tenants.items (graphs_of c.self.inside.graphs) c.self.inside.graphs.aside.begins
    ∙ sym (c.self.invariant.told asked) ∙ ap (place_in c.self.inside.tokens) (sym c.token.ensures) ∙ sym c.in-Some.ensures in
    place_below asked c.args.self.now.state.tenants c.in-Some.place found

pub returns-in-Some : goal.returns-in-Some
returns-in-Some g c =
    let asked : List ℕ = token_of (request_view c.args.request) in
    let found : place_of asked c.args.self.now.state.tenants ≡ Some c.in-Some.place =
    ap (λ (s : ServerState). place_of asked s.tenants) (sym (ap state_seen c.self.view_is)) ∙ place_seen asked c.self.inside.tenants.items (graphs_of c.self.inside.graphs) c.self.inside.graphs.aside.begins
    ∙ sym (c.self.invariant.told asked) ∙ ap (place_in c.self.inside.tokens) (sym c.token.ensures) ∙ sym c.in-Some.ensures in
    record {
      tenants = subst (λ o. StepAt o c.args.self.now.state.tenants (request_view c.args.request) c.answer_at.result.reply c.answer_at.new.self.state.tenants) (sym found) c.answer_at.ensures.tenants;
      cache = subst (λ o. LooksUp (option_and_then (λ t. key_at t c.args.self.now.state.tenants (request_view c.args.request)) o) c.answer_at.result.reply c.args.self.now.state.cache c.answer_at.new.self.state.cache) (sym found) c.answer_at.ensures.cache;
      names = c.answer_at.ensures.names;
      notes = c.answer_at.ensures.notes;
      place = placed c.answer_at.result.changed c.in-Some.place (place_of asked c.args.self.now.state.tenants) found c.answer_at.ensures.place;
    }

pub returns-in-None : goal.returns-in-None
returns-in-None g c =
    let asked : List ℕ = token_of (request_view c.args.request) in
    let none : place_of asked c.args.self.now.state.tenants ≡ None =
    ap (λ (s : ServerState). place_of asked s.tenants) (sym (ap state_seen c.self.view_is)) ∙ place_seen asked c.self.inside.tenants.items (graphs_of c.self.inside.graphs) c.self.inside.graphs.aside.begins
    ∙ sym (c.self.invariant.told asked) ∙ ap (place_in c.self.inside.tokens) (sym c.token.ensures) ∙ sym c.in-None.ensures in
    record {
      tenants = subst (λ o. StepAt o c.args.self.now.state.tenants (request_view c.args.request) c.refused.result.reply c.args.self.now.state.tenants) (sym none) (c.refused.ensures.reply, λ i. c.args.self.now.state.tenants);
      cache = subst (λ o. LooksUp (option_and_then (λ t. key_at t c.args.self.now.state.tenants (request_view c.args.request)) o) c.refused.result.reply c.args.self.now.state.cache c.args.self.now.state.cache) (sym none) (λ i. c.args.self.now.state.cache);
      names = names_stay c.refused.result.reply c.args.self.now.state.names;
      place = subst (λ o. IfSome o (λ t. place_of asked c.args.self.now.state.tenants ≡ Some t)) (sym c.refused.ensures.changed) tt;
      notes = refusal_noted c.args.self.now.state.tenants (request_view c.args.request) c.refused.result.reply (is_some c.refused.result.changed) UnknownToken c.refused.ensures.reply (ap is_some c.refused.ensures.changed);
    }
