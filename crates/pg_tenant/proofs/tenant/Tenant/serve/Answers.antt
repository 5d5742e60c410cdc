use Rattle.std.proofs.Common.{string_bytes, sym, ap, subst}
use Rattle.pg_json.specs.Bodies.{request_view}
use Rattle.pg_json.specs.Requests.{status}
use Rattle.pg_tenant.specs.Changes.{reply_in}
use Rattle.pg_tenant.specs.Step.{Serves}
use Rattle.pg_tenant.proofs.tenant.Tenant.serve.Goals as goal

pub returns-in-Status-clause-serves : goal.returns-in-Status-clause-serves
returns-in-Status-clause-serves g c =
    subst (λ r. Serves c.args.self.now c.args.self.now c.args.live.now c.args.live.now r (reply_in c.with_note.result)) (ap request_view (sym c.in-Status.is))
    (subst (Serves c.args.self.now c.args.self.now c.args.live.now c.args.live.now (status (string_bytes c.in-Status.token))) (sym c.with_note.ensures.reply) (c.status.ensures (string_bytes c.in-Status.token)))
