use Rattle.std.proofs.Common.{◌≡◌, false, rules}
use Rattle.pg_tenant.proofs.ServedLemmas.{begins_one}
use Rattle.pg_tenant.specs.State.{is_open}
use Rattle.pg_tenant.specs.TenantStates.{state_over}
use Rattle.pg_tenant.proofs.tenant.Tenant.begin.Goals as goal

pub returns : goal.returns
returns g c =
    let closed : is_open (state_over c.args.self.now c.args.live.now) ≡ false = search rules in
    begins_one c.args.self.now c.args.live.now c.begin.new.self c.args.token.now c.in-Some.holder c.done.result c.done.ensures c.in-Some.ensures.may closed c.in-Some.ensures.is
    c.begin.ensures.graph c.begin.ensures.names c.begin.ensures.aside c.begin.ensures.open
