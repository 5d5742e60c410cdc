use Rattle.std.proofs.Common.{sym, ◌∙◌}
use Rattle.pg_tenant.proofs.ServedLemmas.{takes_back}
use Rattle.pg_tenant.proofs.tenant.Tenant.rollback.Goals as goal

pub returns : goal.returns
returns g c =
    takes_back c.args.self.now c.args.live.now c.roll_back.new.self c.args.token.now c.done.result c.done.ensures (sym c.test_end.ensures ∙ c.in_ok-test_end.was)
    c.roll_back.ensures.graph c.roll_back.ensures.names c.roll_back.ensures.aside
