use Rattle.std.proofs.Common.{◌≡◌, drop}
use Rattle.std.specs.List.{position_from}
use Rattle.pg_server.proofs.TenantNameLemmas.{is_named}
use Rattle.pg_server.proofs.tenant_names.TenantNames.place.Given as goal

abbrev pub invariant-loop-place : goal.invariant-loop-place
invariant-loop-place l =
    position_from (is_named l.name) 0 l.one-items ≡ position_from (is_named l.name) l.place (drop l.place l.one-items)
