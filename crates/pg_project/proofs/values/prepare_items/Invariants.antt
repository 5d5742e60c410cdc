use Rattle.std.proofs.Common.{◌≡◌, map, take}
use Rattle.pg_project.specs.Columns.{values_in_items}
use Rattle.pg_project.specs.Given.{trees_of}
use Rattle.pg_syntax_tree.specs.View.{item_view}
use Rattle.pg_project.proofs.values.prepare_items.Given as goal

abbrev pub invariant-loop-item : goal.invariant-loop-item
invariant-loop-item l =
    trees_of l.names l.ready.items ≡ values_in_items (map item_view (take l.item-index l.items.items))
