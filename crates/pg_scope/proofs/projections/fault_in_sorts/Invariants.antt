use Rattle.std.proofs.Common.{◌≡◌, drop, map}
use Rattle.std.specs.Prelude.{flat_map}
use Rattle.pg_meaning.specs.StaticFaults.{least}
use Rattle.pg_scope.specs.Columns.{sorts}
use Rattle.pg_scope.specs.Names.{names_in}
use Rattle.pg_syntax_tree.specs.View.{item_view, sort_item_view}
use Rattle.pg_scope.proofs.projections.fault_in_sorts.Given as goal

abbrev pub invariant-loop-sort : goal.invariant-loop-sort
invariant-loop-sort l =
    least l.fn.first (flat_map (sorts (map item_view l.items.items) (names_in l.visible)) (map sort_item_view l.order.items))
    ≡ least l.first (flat_map (sorts (map item_view l.items.items) (names_in l.visible)) (map sort_item_view (drop l.sort-index l.order.items)))
