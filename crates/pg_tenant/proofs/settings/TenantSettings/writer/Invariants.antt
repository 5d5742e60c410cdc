use Rattle.std.proofs.Common.{◌≡◌, drop}
use Rattle.pg_tenant.specs.Settings.{may_write}
use Rattle.pg_tenant.proofs.settings.TenantSettings.writer.Given as goal

abbrev pub invariant-loop-token : goal.invariant-loop-token
invariant-loop-token l = (l.place ≡ l.token-index) × (may_write l.fn.self l.text ≡ may_write (record l.fn.self { tokens = drop l.token-index l.fn.self.tokens }) l.text)
