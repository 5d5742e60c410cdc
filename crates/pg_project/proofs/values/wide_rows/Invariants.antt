use Rattle.std.proofs.Common.{◌≡◌, ◌+◌, ◌*◌, map, length}
use Rattle.pg_project.proofs.InTurn.{after}
use Rattle.pg_project.specs.Given.{trees_of, wide_rows_given}
use Rattle.pg_rows.specs.Left.{rows_left}
use Rattle.pg_rows.specs.Tables.{rows_of, table}
use Rattle.pg_value_core.specs.Given.{parameters_view}
use Rattle.pg_value_core.specs.View.{view}
use Rattle.pg_project.proofs.values.wide_rows.Given as goal

abbrev pub invariant-loop-row : goal.invariant-loop-row
invariant-loop-row g l =
    (wide_rows_given (parameters_view l.scope.query.now.parameters.now) l.graph l.scope.names.now (trees_of l.scope.names.now l.ready.items) l.keeps (table l.fn.rows) ≡ after (rows_of l.width l.at (map view l.values.items)) (wide_rows_given (parameters_view l.scope.query.now.parameters.now) l.graph l.scope.names.now (trees_of l.scope.names.now l.ready.items) l.keeps (rows_left l.left)))
    × (l.left.rows.width ≡ l.fn.rows.width)
    × (length l.values.items ≡ l.at * l.width)
    × (l.at + length (rows_left l.left) ≡ length (table l.fn.rows))

abbrev pub decreases-loop-row : goal.decreases-loop-row
decreases-loop-row g l = length (rows_left l.left)
