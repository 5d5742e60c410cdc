use Rattle.std.proofs.Common.{◌≡◌, drop}
use Rattle.pg_meaning.specs.Updates.{are_plain}
use Rattle.pg_value_core.specs.View.{values_view}
use Rattle.pg_write_make.proofs.storable.are_plain.Given as goal

abbrev pub invariant-loop-item : goal.invariant-loop-item
invariant-loop-item l = are_plain (values_view l.items.items) ≡ are_plain (values_view (drop l.item-index l.items.items))
