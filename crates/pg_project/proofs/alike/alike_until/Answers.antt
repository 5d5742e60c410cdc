use Rattle.std.proofs.Common.{◌<◌, length, map, subst}
use Rattle.pg_project.proofs.AlikeCounts.{alike_more, none_alike}
use Rattle.pg_rows.specs.Tables.{table}
use Rattle.pg_value_core.specs.View.{view}
use Rattle.pg_project.proofs.alike.alike_until.Goals as goal

pub loop-at-init : goal.loop-at-init
loop-at-init c = none_alike c.args.columns.now (table c.args.rows.now) c.args.from (map view c.args.before.now)

pub loop-at-preserved : goal.loop-at-preserved
loop-at-preserved c =
    let within : c.loop-at.at < length (table c.args.rows.now) = subst (λ n. c.loop-at.at < n) c.len.ensures c.loop-at-test.true in
    alike_more c.args.columns.now (table c.args.rows.now) c.args.from c.loop-at.at (map view c.args.before.now) c.loop-at.invariant (map view c.row.result.now) c.row.ensures within (c.are_alike.ensures c.if-not-are_alike.false)
