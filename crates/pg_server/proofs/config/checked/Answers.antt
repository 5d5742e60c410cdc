use Rattle.std.proofs.Common.{◌≡◌, ◌<◌, ◌≤◌, length, rules, arith, Some}
use Rattle.std.proofs.lemmas.Bool.Decides.{nat_tests}
use Rattle.pg_server.specs.Configuration.{tenants_in_range, max_tenants}
use Rattle.pg_server.proofs.ConfigLemmas.{as_many}
use Rattle.pg_server.proofs.config.checked.Goals as goal

pub invariant_of-result : goal.invariant_of-result
invariant_of-result c =
    let found : tenants_in_range c.draft.inside.tenants.items ≡ Some c.in_ok-tenants.tenants.items = search rules in
    let some : 0 < length c.draft.inside.tenants.items = grind (arith, nat_tests, c.if-is_empty.ensures) in
    let few : length c.draft.inside.tenants.items ≤ max_tenants = omega (arith, c.if-len-gt-MAX_TENANTS.false, c.len.ensures) in
    let as_many = as_many c.draft.inside.tenants.items c.in_ok-tenants.tenants.items found in
    (search rules, omega (arith, as_many, some), omega (arith, as_many, few))
