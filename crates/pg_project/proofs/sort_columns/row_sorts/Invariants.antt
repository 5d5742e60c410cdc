use Rattle.std.proofs.Common.{◌≡◌, List, length, take, drop}
use Rattle.pg_meaning.specs.Graph.{Graph}
use Rattle.pg_meaning.specs.Value.{Value as Datum, Entries}
use Rattle.pg_project.proofs.InTurn.{after}
use Rattle.pg_project.specs.Given.{keys_given}
use Rattle.pg_project.specs.Sources.{source_directions, sources_view}
use Rattle.pg_rows.specs.Sorts.{directions_of, picked}
use Rattle.pg_project.proofs.sort_columns.row_sorts.Given as goal

abbrev pub invariant-loop-source : goal.invariant-loop-source
invariant-loop-source l =
    (directions_of l.found.items ≡ source_directions (take l.source-index l.sources.items))
    × ((parameters : Entries) (graph : Graph) (values : List Datum) → length values ≡ l.width → keys_given parameters graph l.names (sources_view l.names l.sources.items) values ≡ after (picked l.found.items values) (keys_given parameters graph l.names (sources_view l.names (drop l.source-index l.sources.items)) values))
