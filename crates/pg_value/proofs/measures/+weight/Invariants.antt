use Rattle.std.proofs.Common.{◌≡◌, ◌^◌, ◌-◌, ◌+◌, ◌≤◌, min, drop}
use Rattle.pg_meaning.specs.Measure.{items_weight, entries_weight}
use Rattle.pg_value_core.specs.View.{values_view, entries_view}
use Rattle.pg_value.proofs.measures.+weight.Given as goal

-- what is counted and what is left make the whole
abbrev pub invariant-weight_entries-loop-key : goal.invariant-weight_entries-loop-key
invariant-weight_entries-loop-key l =
    (l.total ≤ 2 ^ 64 - 1) × (min (l.total + entries_weight (entries_view l.key-iterator)) (2 ^ 64 - 1) ≡ min (entries_weight (entries_view l.entries.entries)) (2 ^ 64 - 1))

abbrev pub invariant-weight_items-loop-item : goal.invariant-weight_items-loop-item
invariant-weight_items-loop-item l =
    (l.total ≤ 2 ^ 64 - 1) × (min (l.total + items_weight (values_view (drop l.item-index l.item-items))) (2 ^ 64 - 1) ≡ min (items_weight (values_view l.item-items)) (2 ^ 64 - 1))
