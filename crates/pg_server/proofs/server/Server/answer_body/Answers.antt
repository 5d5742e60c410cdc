use Rattle.std.proofs.Common.{◌≡◌, Some, is_some, subst, ap, ◌∙◌}
use Rattle.std.specs.Prelude.{IfSome}
use Rattle.pg_json.specs.Bodies.{request_view}
use Rattle.pg_json.specs.Requests.{token_of}
use Rattle.pg_server.specs.Handles.{Handles}
use Rattle.pg_server.specs.Runs.{asked}
use Rattle.pg_server.specs.State.{ServerState, state_at}
use Rattle.pg_server.specs.Step.{place_of}
use Rattle.pg_server.proofs.AnsweredQueryLemmas.{answered_by_meaning}
use Rattle.pg_server.proofs.ChangeLemmas.{told_of, tenant_of_asked}
use Rattle.pg_server.proofs.HandleLemmas.{handled, not_read}
use Rattle.pg_server.proofs.StepLemmas.{asked_is}
use Rattle.pg_server.proofs.server.Server.answer_body.Goals as goal

pub returns-in-Ok-clause-handles : goal.returns-in-Ok-clause-handles
returns-in-Ok-clause-handles g c =
    let server = c.request_in.new.self.state in
    let request = request_view c.in-Ok.request in
    subst (λ (s : ServerState). Handles s c.args.body.now c.answer_request.result.reply c.answer_request.new.self.state) c.request_in.ensures.same
    (handled server c.answer_request.new.self.state c.args.body.now c.answer_request.result.reply request c.show_tenants.ensures.distinct
    (λ t. answered_by_meaning (state_at server t) request (c.show_tenants.ensures.graphs t)) c.in-Ok.ensures.read.0 c.in-Ok.ensures.read.1
    c.answer_request.ensures.tenants c.answer_request.ensures.cache c.answer_request.ensures.names)

pub returns-in-Err-clause-handles : goal.returns-in-Err-clause-handles
returns-in-Err-clause-handles g c =
    let server = c.request_in.new.self.state in
    subst (λ (s : ServerState). Handles s c.args.body.now c.refused.result.reply server) c.request_in.ensures.same
    (not_read server c.args.body.now c.refused.result.reply c.in-Err.fault c.in-Err.ensures.unread c.refused.ensures.reply)

pub returns-in-Ok-clause-told : goal.returns-in-Ok-clause-told
returns-in-Ok-clause-told g c =
    let request = request_view c.in-Ok.request in
    told_of (asked c.args.body.now) request c.answer_request.result.reply (is_some c.answer_request.result.changed)
    (asked_is c.args.body.now request c.in-Ok.ensures.read.0 c.in-Ok.ensures.read.1) c.answer_request.ensures.notes.told

pub returns-in-Ok-clause-unchanged : goal.returns-in-Ok-clause-unchanged
returns-in-Ok-clause-unchanged g c none =
    c.answer_request.ensures.notes.unchanged c.show_tenants.ensures.graphs (ap is_some none) ∙ ap (λ (s : ServerState). s.tenants) c.request_in.ensures.same

pub returns-in-Ok-clause-place : goal.returns-in-Ok-clause-place
returns-in-Ok-clause-place g c =
    let request = request_view c.in-Ok.request in
    tenant_of_asked (asked c.args.body.now) request c.args.self.now.state.tenants c.answer_request.result.changed
    (asked_is c.args.body.now request c.in-Ok.ensures.read.0 c.in-Ok.ensures.read.1)
    (subst (λ (s : ServerState). IfSome c.answer_request.result.changed (λ t. place_of (token_of request) s.tenants ≡ Some t)) c.request_in.ensures.same c.answer_request.ensures.place)
