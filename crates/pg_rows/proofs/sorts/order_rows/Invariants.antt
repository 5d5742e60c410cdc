use Rattle.std.proofs.Common.{◌≡◌, drop, map}
use Rattle.pg_value_core.specs.View.{view}
use Rattle.pg_rows.specs.Sorts.{directions_of, key_order, picked}
use Rattle.pg_rows.proofs.sorts.order_rows.Given as goal

abbrev pub invariant-loop-sort : goal.invariant-loop-sort
invariant-loop-sort l =
    key_order (directions_of (drop l.sort-index l.sorts)) (picked (drop l.sort-index l.sorts) (map view l.a)) (picked (drop l.sort-index l.sorts) (map view l.b)) ≡ key_order (directions_of l.sorts) (picked l.sorts (map view l.a)) (picked l.sorts (map view l.b))
