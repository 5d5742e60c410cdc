use Rattle.std.proofs.Common.{map}
use Rattle.pg_project.proofs.InTurn.{drop_here}
use Rattle.pg_rows.specs.Tables.{table}
use Rattle.pg_run.proofs.Tells.{one_row_told}
use Rattle.pg_value_core.specs.View.{view}
use Rattle.pg_run.proofs.tables.tell_rows.Goals as goal

pub loop-at-preserved : goal.loop-at-preserved
loop-at-preserved g c =
    let row = map view c.row.result.now in
    one_row_told c.args.graph.now _ _ _ _ _ _ row c.loop-at.invariant (drop_here (table c.args.rows.now) c.loop-at.at row c.row.ensures)
    (λ notes columns rows h. c.in_ok-end_row.ensures.telling notes c.args.graph.now columns rows row (c.in_ok-tell_values.ensures notes columns rows h))
