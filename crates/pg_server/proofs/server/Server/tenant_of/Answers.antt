use Rattle.pg_json.specs.Bodies.{request_view}
use Rattle.pg_server.specs.Runs.{asked}
use Rattle.pg_server.proofs.StepLemmas.{tenant_shown}
use Rattle.pg_server.proofs.server.Server.tenant_of.Goals as goal

pub returns-in-Some : goal.returns-in-Some
returns-in-Some g c =
    tenant_shown (asked c.args.body.now) c.args.self.now.state.tenants (request_view c.in-Some.request) _ c.place.result c.in-Some.ensures c.token.ensures c.place.ensures
