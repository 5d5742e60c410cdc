use Rattle.std.proofs.Common.{◌≡◌, [], ◌++◌, map}
use Rattle.std.specs.Vec.Iter.{into_iter_items}
use Rattle.pg_project.specs.Unwound.{with_items}
use Rattle.pg_rows.specs.Tables.{table}
use Rattle.pg_value_core.specs.View.{view}
use Rattle.pg_project.proofs.lists.push_copies.Given as goal

abbrev pub invariant-loop-item : goal.invariant-loop-item
invariant-loop-item l =
    (table l.found ++ with_items l.has_column (map view l.row) (map view (into_iter_items l.item-iterator)) ≡ table l.fn.found ++ with_items l.has_column (map view l.row) (map view l.fn.items.items))
    × (l.found.width ≡ l.fn.found.width)
    × (l.copy.items ≡ [])
