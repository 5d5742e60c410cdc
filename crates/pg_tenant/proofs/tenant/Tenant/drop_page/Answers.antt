use Rattle.std.proofs.Common.{◌≡◌, Ok, rules, refl, sym, ◌∙◌}
use Rattle.pg_pages.specs.Held.{dropped}
use Rattle.pg_tenant.proofs.ServedLemmas.{serves_drop}
use Rattle.pg_tenant.proofs.tenant.Tenant.drop_page.Goals as goal

pub returns : goal.returns
returns g c =
    let given : dropped c.args.self.now.pages c.args.token.now c.args.number ≡ Ok c.drop_page.new.self = search rules in
    serves_drop c.args.self.now (record { settings = c.args.self.now.settings; indexes = c.args.self.now.indexes; pages = c.drop_page.new.self }) c.args.live.now refl refl c.args.token.now c.args.number c.done.result
    c.done.ensures (sym c.test_pages.ensures ∙ c.in_ok-test_pages.was) given
