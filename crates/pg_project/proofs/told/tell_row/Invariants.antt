use Rattle.std.proofs.Common.{◌≡◌, ◌++◌, drop, length, map}
use Rattle.std.specs.Vec.Iter.{into_iter_items}
use Rattle.pg_project.specs.Kept.{merged, told_each}
use Rattle.pg_project.specs.KeptGroups.{aggregates_among}
use Rattle.pg_project.specs.Views.{takens_view}
use Rattle.pg_value_core.specs.View.{view}
use Rattle.pg_project.proofs.told.tell_row.Given as goal

abbrev pub invariant-loop-is_aggregate : goal.invariant-loop-is_aggregate
invariant-loop-is_aggregate l =
    (map view l.row.items ++ merged (drop l.is_aggregate-index l.are_aggregates.items) (map view (into_iter_items l.keys)) (told_each (takens_view (into_iter_items l.left)))
    ≡ merged l.are_aggregates.items (map view l.fn.key.items) (told_each (takens_view (into_iter_items l.fn.left))))
    × (length l.row.items ≡ l.is_aggregate-index)
    × (drop (aggregates_among (drop l.is_aggregate-index l.are_aggregates.items)) (into_iter_items l.left) ≡ drop (aggregates_among l.are_aggregates.items) (into_iter_items l.fn.left))
