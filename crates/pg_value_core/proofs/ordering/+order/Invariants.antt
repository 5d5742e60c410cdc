use Rattle.std.proofs.Common.{◌≡◌, drop}
use Rattle.pg_meaning.specs.Order.{items_order, entries_order}
use Rattle.pg_value_core.specs.View.{values_view, entries_view}
use Rattle.pg_value_core.proofs.ordering.+order.Given as goal

-- what is left decides
abbrev pub invariant-order_items-loop-x : goal.invariant-order_items-loop-x
invariant-order_items-loop-x l = items_order (values_view (drop l.x-index l.xs.items)) (values_view l.others) ≡ items_order (values_view l.xs.items) (values_view l.ys.items)

abbrev pub invariant-order_entries-loop-x : goal.invariant-order_entries-loop-x
invariant-order_entries-loop-x l = entries_order (entries_view l.x-iterator) (entries_view l.others) ≡ entries_order (entries_view l.xs.entries) (entries_view l.ys.entries)
