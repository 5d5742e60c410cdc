use Rattle.std.proofs.Common.{◌≡◌, [], length, drop}
use Rattle.pg_project.proofs.InTurn.{after}
use Rattle.pg_project.specs.Given.{all_keys_given}
use Rattle.pg_project.specs.Sources.{sources_view}
use Rattle.pg_rows.specs.Tables.{table}
use Rattle.pg_value_core.specs.Given.{parameters_view}
use Rattle.pg_project.proofs.sorting.keys.Given as goal

abbrev pub invariant-loop-at : goal.invariant-loop-at
invariant-loop-at g l =
    (all_keys_given (parameters_view l.scope.query.now.parameters.now) l.graph l.scope.names.now (sources_view l.scope.names.now l.sources.items) (table l.rows) ≡ after (table l.found) (all_keys_given (parameters_view l.scope.query.now.parameters.now) l.graph l.scope.names.now (sources_view l.scope.names.now l.sources.items) (drop l.at (table l.rows))))
    × (length (table l.found) ≡ l.at)
    × (l.found.width ≡ length l.sources.items)
    × (l.keys.items ≡ [])
