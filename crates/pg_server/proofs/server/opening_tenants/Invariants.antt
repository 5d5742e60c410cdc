use Rattle.std.specs.Prelude.{◌≡◌, ◌++◌, map}
use Rattle.std.specs.Vec.Iter.{into_iter_items}
use Rattle.pg_tenant.specs.State.{opening}
use Rattle.pg_tenant.specs.TenantStates.{opening_state}
use Rattle.pg_server.proofs.server.opening_tenants.Given as goal

abbrev pub invariant-loop-one : goal.invariant-loop-one
invariant-loop-one l = map opening_state l.tenants.items ++ map opening (into_iter_items l.one-iterator) ≡ map opening l.fn.settings.items
