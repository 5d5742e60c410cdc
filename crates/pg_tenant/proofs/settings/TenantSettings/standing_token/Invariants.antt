use Rattle.std.proofs.Common.{◌≡◌, drop, filter}
use Rattle.pg_tenant.specs.Settings.{is_write}
use Rattle.pg_tenant.proofs.settings.TenantSettings.standing_token.Given as goal

abbrev pub invariant-loop-token : goal.invariant-loop-token
invariant-loop-token l = filter (λ t. is_write t.rights) l.fn.self.tokens ≡ filter (λ t. is_write t.rights) (drop l.token-index l.fn.self.tokens)
