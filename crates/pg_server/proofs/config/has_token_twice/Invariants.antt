use Rattle.std.proofs.Common.{◌≡◌, ◌++◌, drop, map}
use Rattle.pg_server.specs.Settings.{all_tokens}
use Rattle.pg_server.proofs.config.has_token_twice.Given as goal

abbrev pub invariant-loop-tenant : goal.invariant-loop-tenant
invariant-loop-tenant l = all_tokens l.tenants ≡ map (λ t. t.now) l.texts.items ++ all_tokens (drop l.tenant-index l.tenants)
