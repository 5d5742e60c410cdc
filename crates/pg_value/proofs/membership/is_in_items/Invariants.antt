use Rattle.std.proofs.Common.{◌≡◌, drop}
use Rattle.pg_meaning.specs.Equality.{is_in3}
use Rattle.pg_meaning.specs.Logic.{or3}
use Rattle.pg_value_core.specs.View.{view, values_view}
use Rattle.pg_value.proofs.membership.is_in_items.Given as goal

-- the answer so far and that of what is left make the whole
abbrev pub invariant-loop-item : goal.invariant-loop-item
invariant-loop-item l = or3 l.any (is_in3 (view l.value) (values_view (drop l.item-index l.item-items))) ≡ is_in3 (view l.value) (values_view l.item-items)
