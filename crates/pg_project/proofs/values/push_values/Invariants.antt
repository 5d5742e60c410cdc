use Rattle.std.proofs.Common.{◌≡◌, ◌+◌, length, map, drop}
use Rattle.pg_project.proofs.InTurn.{after}
use Rattle.pg_project.specs.Given.{trees_of, values_given}
use Rattle.pg_value_core.specs.Given.{parameters_view}
use Rattle.pg_value_core.specs.View.{view}
use Rattle.pg_project.proofs.values.push_values.Given as goal

abbrev pub invariant-loop-one : goal.invariant-loop-one
invariant-loop-one g l =
    (after (map view l.fn.values.items) (values_given (parameters_view l.context.parameters.now) l.graph l.context.names.now (trees_of l.context.names.now l.ready.items) (map view l.context.row.now)) ≡ after (map view l.values.items) (values_given (parameters_view l.context.parameters.now) l.graph l.context.names.now (trees_of l.context.names.now (drop l.one-index l.ready.items)) (map view l.context.row.now)))
    × (length l.values.items ≡ length l.fn.values.items + l.one-index)
