use Rattle.std.proofs.Common.{◌≡◌, ◌^◌, ◌-◌, ◌≤◌, min, max, drop}
use Rattle.pg_meaning.specs.Measure.{items_depth, entries_depth}
use Rattle.pg_value_core.specs.View.{values_view, entries_view}
use Rattle.pg_value.proofs.measures.+depth.Given as goal

-- the most so far and the most of what is left make the most of all
abbrev pub invariant-depth_entries-loop-key : goal.invariant-depth_entries-loop-key
invariant-depth_entries-loop-key l =
    (l.most ≤ 2 ^ 64 - 1) × (min (max l.most (entries_depth (entries_view l._key-iterator))) (2 ^ 64 - 1) ≡ min (entries_depth (entries_view l.entries.entries)) (2 ^ 64 - 1))

abbrev pub invariant-depth_items-loop-item : goal.invariant-depth_items-loop-item
invariant-depth_items-loop-item l =
    (l.most ≤ 2 ^ 64 - 1) × (min (max l.most (items_depth (values_view (drop l.item-index l.item-items)))) (2 ^ 64 - 1) ≡ min (items_depth (values_view l.item-items)) (2 ^ 64 - 1))
