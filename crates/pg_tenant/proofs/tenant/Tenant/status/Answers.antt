use Rattle.pg_json.specs.Replies.{tenant_text}
use Rattle.pg_tenant.proofs.ServedLemmas.{serves_status}
use Rattle.pg_tenant.proofs.StatusLemmas.{status_accepted, status_given}
use Rattle.pg_tenant.specs.TenantStates.{state_over}
use Rattle.pg_tenant.proofs.tenant.Tenant.status.Goals as goal

pub returns : goal.returns
returns g c token =
    serves_status c.args.self.now c.args.live.now c.write_status.result token (status_accepted c.in_ok-status.status c.write_status.result c.write_status.ensures.ok)
    (status_given (state_over c.args.self.now c.args.live.now) (tenant_text c.in_ok-status.status) c.in_ok-status.ensures c.write_status.result
    c.write_status.ensures.ok c.write_status.ensures.within c.write_status.ensures.kind c.write_status.ensures.long)
