use Rattle.std.proofs.Common.{◌≡◌, ◌≤◌, List, length, take}
use Rattle.pg_meaning.specs.Value.{Value as Datum}
use Rattle.pg_project.specs.Sources.{source_directions}
use Rattle.pg_rows.specs.Sorts.{directions_of, picked}
use Rattle.pg_project.proofs.sort_columns.key_sorts.Given as goal

abbrev pub invariant-loop-source : goal.invariant-loop-source
invariant-loop-source l =
    (directions_of l.found.items ≡ source_directions (take l.source-index l.sources.items))
    × (length l.found.items ≡ l.source-index)
    × ((keys : List Datum) → l.source-index ≤ length keys → picked l.found.items keys ≡ take l.source-index keys)
