use Rattle.std.proofs.Common.{get_or, map, sym, ◌∙◌}
use Rattle.pg_project.proofs.KeyColumns.{one_alike, seen_at}
use Rattle.pg_value_core.specs.View.{view}
use Rattle.pg_project.proofs.alike.are_alike.Goals as goal

pub loop-column-preserved : goal.loop-column-preserved
loop-column-preserved c =
    let row = c.args.row.now in
    let before = c.args.before.now in
    let column = get_or c.args.columns.now c.loop-column.column-index 0 in
    let same = sym (seen_at row column c.get.result c.get.ensures.lookup) ∙ c.is_alike.ensures c.if-not-is_alike.false ∙ seen_at before column c.get-in-loop-column.result c.get-in-loop-column.ensures.lookup in
    one_alike (map view row) (map view before) c.args.columns.now c.loop-column.column-index c.loop-column.invariant c.loop-column-test.true same
