use Rattle.std.proofs.Common.{◌≡◌, drop, map}
use Rattle.pg_project.specs.Given.{sorts_by_columns}
use Rattle.pg_syntax_tree.specs.View.{sort_item_view}
use Rattle.pg_project.proofs.pass_through.sorts_by_columns.Given as goal

abbrev pub invariant-loop-item : goal.invariant-loop-item
invariant-loop-item l = sorts_by_columns l.columns (map sort_item_view (drop l.item-index l.order.items)) ≡ sorts_by_columns l.columns (map sort_item_view l.order.items)
