use Rattle.std.proofs.Common.{◌≡◌, length, drop}
use Rattle.pg_expr.specs.Prepared.{tree_of}
use Rattle.pg_project.proofs.InTurn.{after}
use Rattle.pg_project.specs.Unwound.{lists_given, lists_view}
use Rattle.pg_rows.specs.Tables.{table}
use Rattle.pg_value_core.specs.Given.{parameters_view}
use Rattle.pg_project.proofs.lists.lists_at.Given as goal

abbrev pub invariant-loop-at : goal.invariant-loop-at
invariant-loop-at g l =
    (lists_given (parameters_view l.scope.query.now.parameters.now) l.graph (tree_of l.scope.names.now l.prepared) l.scope.names.now (table l.rows) ≡ after (lists_view l.lists.items) (lists_given (parameters_view l.scope.query.now.parameters.now) l.graph (tree_of l.scope.names.now l.prepared) l.scope.names.now (drop l.at (table l.rows))))
    × (length l.lists.items ≡ l.at)
