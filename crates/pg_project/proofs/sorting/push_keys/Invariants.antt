use Rattle.std.proofs.Common.{◌≡◌, length, map, drop}
use Rattle.pg_project.proofs.InTurn.{after}
use Rattle.pg_project.specs.Given.{keys_given}
use Rattle.pg_project.specs.Sources.{sources_view}
use Rattle.pg_value_core.specs.Given.{parameters_view}
use Rattle.pg_value_core.specs.View.{view}
use Rattle.pg_project.proofs.sorting.push_keys.Given as goal

abbrev pub invariant-loop-source : goal.invariant-loop-source
invariant-loop-source g l =
    (keys_given (parameters_view l.context.parameters.now) l.graph l.context.names.now (sources_view l.context.names.now l.sources.items) (map view l.context.row.now) ≡ after (map view l.keys.items) (keys_given (parameters_view l.context.parameters.now) l.graph l.context.names.now (sources_view l.context.names.now (drop l.source-index l.sources.items)) (map view l.context.row.now)))
    × (length l.keys.items ≡ l.source-index)
