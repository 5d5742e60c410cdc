use Rattle.std.proofs.Common.{ap, sym, ◌∙◌}
use Rattle.pg_tenant.proofs.SettingsLemmas.{writer_found, writer_passed, none_writes}
use Rattle.pg_tenant.specs.Settings.{TenantSettings}
use Rattle.pg_tenant.proofs.settings.TenantSettings.standing_token.Goals as goal

pub returns-then-may_write : goal.returns-then-may_write
returns-then-may_write c =
    let same = c.deref-token-items.ensures.value ∙ ap (λ (s : TenantSettings). s.tokens) c.self.view_is in
    c.text.ensures
    ∙ sym (writer_found c.args.self.now c.deref-token-items.result.now c.loop-token.token-index c.token-item.result same c.loop-token.invariant c.loop-token-test.true c.token-item.is (sym c.may_write.ensures ∙ c.if-may_write.true))

pub loop-token-preserved : goal.loop-token-preserved
loop-token-preserved c =
    let same = c.deref-token-items.ensures.value ∙ ap (λ (s : TenantSettings). s.tokens) c.self.view_is in
    writer_passed c.args.self.now c.deref-token-items.result.now c.loop-token.token-index c.token-item.result same c.loop-token.invariant c.loop-token-test.true c.token-item.is (sym c.may_write.ensures ∙ c.if-may_write.false)

pub returns : goal.returns
returns c =
    let same = c.deref-token-items.ensures.value ∙ ap (λ (s : TenantSettings). s.tokens) c.self.view_is in
    c.token_at.ensures ∙ sym (none_writes c.args.self.now c.deref-token-items.result.now c.loop-token.token-index same c.loop-token.invariant c.loop-token-test.false)
