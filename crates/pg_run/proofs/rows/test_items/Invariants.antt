use Rattle.std.proofs.Common.{drop, map}
use Rattle.pg_project.specs.Given.{trees_of, value_given}
use Rattle.pg_run.proofs.Returns.{TestedSoFar}
use Rattle.pg_value_core.specs.Given.{parameters_view}
use Rattle.pg_value_core.specs.View.{view}
use Rattle.pg_run.proofs.rows.test_items.Given as goal

abbrev pub invariant-loop-one : goal.invariant-loop-one
invariant-loop-one g l =
    TestedSoFar (value_given (parameters_view l.items.query.now.parameters.now) l.graph l.items.names.now (map view l.row)) (trees_of l.items.names.now l.items.ready.now) (trees_of l.items.names.now (drop l.one-index l.items.ready.now))
