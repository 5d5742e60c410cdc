use Rattle.std.proofs.Common.{ap, sym, ◌∙◌}
use Rattle.pg_tenant.proofs.SettingsLemmas.{token_found}
use Rattle.pg_tenant.specs.Settings.{TenantSettings}
use Rattle.pg_tenant.proofs.settings.TenantSettings.writer.Goals as goal

pub returns-then-lets_write-clause-is : goal.returns-then-lets_write-clause-is
returns-then-lets_write-clause-is c =
    token_found c.args.self.now c.deref-token-items.result.now c.loop-token.token-index c.loop-token.place c.token-item.result c.args.text.now
    (c.deref-token-items.ensures.value ∙ ap (λ (s : TenantSettings). s.tokens) c.self.view_is) c.loop-token.invariant.0 c.loop-token-test.true c.token-item.is (sym c.lets_write.ensures ∙ c.if-lets_write.true)
