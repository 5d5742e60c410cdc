use Rattle.std.proofs.Common.{◌≡◌, take, map}
use Rattle.pg_value_core.specs.View.{view}
use Rattle.pg_value_core.proofs.copy.copy_items.Given as goal

abbrev pub invariant-loop-item : goal.invariant-loop-item
invariant-loop-item l = map view l.copies.items ≡ map view (take l.item-index l.item-items)
