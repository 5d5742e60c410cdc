use Rattle.std.proofs.Common.{is_some, ◌∙◌}
use Rattle.pg_json.specs.Bodies.{request_view}
use Rattle.pg_server.proofs.ChangeLemmas.{done_noted, then_told}
use Rattle.pg_server.proofs.server.Server.answer_at.Goals as goal

pub returns-in-Ok-clause-notes : goal.returns-in-Ok-clause-notes
returns-in-Ok-clause-notes g c =
    done_noted c.args.self.now.state.tenants c.reply_at.new.self.state.tenants c.args.place (request_view c.args.request) c.in-Ok.noted.reply (is_some c.then_some.result)
    c.in-Ok.ensures.tenants c.in-Ok.ensures.accepted (then_told c.in-Ok.noted.changes c.args.place c.then_some.result c.then_some.ensures ∙ c.in-Ok.ensures.told)
