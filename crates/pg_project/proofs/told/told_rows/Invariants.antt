use Rattle.std.proofs.Common.{◌≡◌, ◌++◌, [], length, map}
use Rattle.std.specs.Vec.Iter.{into_iter_items}
use Rattle.pg_project.specs.Kept.{merged, told_each}
use Rattle.pg_project.specs.KeptGroups.{aggregates_among, groups_of, groups_view, parted}
use Rattle.pg_project.specs.Views.{takens_view}
use Rattle.pg_rows.specs.Groups.{keys_view}
use Rattle.pg_rows.specs.Tables.{table}
use Rattle.pg_project.proofs.told.told_rows.Given as goal

abbrev pub invariant-loop-key : goal.invariant-loop-key
invariant-loop-key l =
    let kinds = l.are_aggregates.items in
    (table l.found ++ map (λ g. merged kinds g.key (told_each g.taken)) (groups_of (keys_view l.key-iterator) (parted (length l.key-iterator) (aggregates_among kinds) (takens_view (into_iter_items l.left))))
    ≡ map (λ g. merged kinds g.key (told_each g.taken)) (groups_view (aggregates_among kinds) l.fn.groups))
    × (l.found.width ≡ length kinds)
    × (l.row.items ≡ [])
