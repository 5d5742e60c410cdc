use Rattle.std.proofs.Common.{length, arith}
use Rattle.std.proofs.lemmas.Bool.{le-leb}
use Rattle.pg_json.specs.Bodies.{request_view}
use Rattle.pg_server.specs.Frames.{body_limit}
use Rattle.pg_server.proofs.StepLemmas.{asked_is}
use Rattle.pg_server.proofs.server.Server.request_of.Goals as goal

pub returns-in-Ok : goal.returns-in-Ok
returns-in-Ok g c =
    asked_is c.args.body.now (request_view c.in-Ok.request) (le-leb (length c.args.body.now) body_limit (omega (arith, c.if-body-gt-MAX_BODY.false))) c.in-Ok.ensures.ok
