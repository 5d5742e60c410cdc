use Rattle.std.proofs.Common.{sym, ◌∙◌}
use Rattle.pg_tenant.proofs.ServedLemmas.{keeps_one}
use Rattle.pg_tenant.proofs.tenant.Tenant.commit.Goals as goal

pub returns : goal.returns
returns g c =
    keeps_one c.args.self.now c.args.live.now c.keep.new.self c.args.token.now c.done.result c.done.ensures (sym c.test_end.ensures ∙ c.in_ok-test_end.was)
    c.keep.ensures.graph c.keep.ensures.names c.keep.ensures.aside
