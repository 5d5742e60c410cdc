use Rattle.std.proofs.Common.{◌≡◌, ◌-◌, drop, length, map}
use Rattle.pg_project.specs.Items.{aggregates_in, expressions_view, keys_in}
use Rattle.pg_project.specs.Alike.{IsLatest}
use Rattle.pg_project.specs.Kept.{answers_at, first_kept, kept_rows}
use Rattle.pg_project.specs.KeptGroups.{Paired, groups_view}
use Rattle.pg_rows.specs.Tables.{table}
use Rattle.pg_value_core.specs.Given.{parameters_view}
use Rattle.pg_value_core.specs.View.{view}
use Rattle.pg_project.proofs.rows.groups_of_rows.Given as goal

abbrev pub invariant-loop-at : goal.invariant-loop-at
invariant-loop-at g l =
    let es = expressions_view l.expressions.items in
    (kept_rows (parameters_view l.scope.query.now.parameters.now) l.graph l.scope.names.now es (first_kept (keys_in es) (aggregates_in es)) (table l.rows)
    ≡ kept_rows (parameters_view l.scope.query.now.parameters.now) l.graph l.scope.names.now es (groups_view (length l.items.aggregates.items) l.groups) (drop l.at (table l.rows)))
    × Paired (length l.items.aggregates.items) l.groups
    × IsLatest (answers_at (parameters_view l.scope.query.now.parameters.now) l.graph l.scope.names.now (map view l.before)) (keys_in es) l.groups

abbrev pub decreases-loop-at : goal.decreases-loop-at
decreases-loop-at g l = length (table l.rows) - l.at
