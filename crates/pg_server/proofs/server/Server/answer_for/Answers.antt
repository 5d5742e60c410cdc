use Rattle.std.proofs.Common.{subst}
use Rattle.pg_json.specs.Bodies.{request_view}
use Rattle.pg_server.specs.Handles.{HandlesFor}
use Rattle.pg_server.specs.State.{ServerState, state_at}
use Rattle.pg_server.proofs.AnsweredQueryLemmas.{answered_by_meaning}
use Rattle.pg_server.proofs.HandleLemmas.{handled_for, not_read_for}
use Rattle.pg_server.proofs.server.Server.answer_for.Goals as goal

pub returns-in-Ok : goal.returns-in-Ok
returns-in-Ok g c =
    let server = c.request_in.new.self.state in
    subst (λ (s : ServerState). HandlesFor c.args.place s c.args.body.now c.answer_request_for.result.reply c.answer_request_for.new.self.state) c.request_in.ensures.same
    (handled_for c.args.place server c.answer_request_for.new.self.state c.args.body.now c.answer_request_for.result.reply (request_view c.in-Ok.request) c.show_tenants.ensures.distinct
    (λ r t. answered_by_meaning (state_at server t) r (c.show_tenants.ensures.graphs t)) c.in-Ok.ensures.read.0 c.in-Ok.ensures.read.1 c.answer_request_for.ensures)

pub returns-in-Err : goal.returns-in-Err
returns-in-Err g c =
    let server = c.request_in.new.self.state in
    subst (λ (s : ServerState). HandlesFor c.args.place s c.args.body.now c.refused.result.reply server) c.request_in.ensures.same
    (not_read_for c.args.place server c.args.body.now c.refused.result.reply c.in-Err.fault c.in-Err.ensures.unread c.refused.ensures.reply)
