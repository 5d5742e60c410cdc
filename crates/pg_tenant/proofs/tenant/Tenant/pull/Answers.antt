use Rattle.std.proofs.Common.{refl, sym, ◌∙◌}
use Rattle.pg_tenant.proofs.ServedLemmas.{serves_pull}
use Rattle.pg_tenant.proofs.tenant.Tenant.pull.Goals as goal

pub returns : goal.returns
returns g c =
    serves_pull c.args.self.now (record { settings = c.args.self.now.settings; indexes = c.args.self.now.indexes; pages = c.pull.new.self }) c.args.live.now refl refl c.args.token.now c.args.number c.pull.result
    (sym c.test_pages.ensures ∙ c.in_ok-test_pages.was) c.pull.ensures
