use Rattle.pg_server.proofs.TenantNameLemmas.{at_most, within_more, within_all}
use Rattle.std.proofs.Common.{string_bytes, length, ◌≤◌, arith}
use Rattle.pg_server.proofs.tenant_names.longest_of.Goals as goal

pub loop-name-preserved : goal.loop-name-preserved
loop-name-preserved c =
    let most = at_most c.loop-name.longest c.len.result c.max-longest.result c.max-longest.ensures in
    let long : length (string_bytes c.name-item.result) ≤ c.max-longest.result = omega (arith, most.1, c.len.ensures) in
    within_more c.args.names.now c.loop-name.name-index c.loop-name.longest c.max-longest.result c.name-item.result c.loop-name-test.true c.name-item.is c.loop-name.invariant most.0 long

pub returns : goal.returns
returns c = within_all c.args.names.now c.loop-name.name-index c.loop-name.longest c.loop-name-test.false c.loop-name.invariant
