use Rattle.std.proofs.Common.{◌≡◌, ◌^◌, ◌-◌, ◌+◌, ◌≤◌, min, max, drop}
use Rattle.pg_meaning.specs.Measure.{items_weight, items_depth}
use Rattle.pg_expr.specs.Contexts.{founds_view}
use Rattle.pg_expr.proofs.made.are_within_limits.Given as goal

-- what is counted and what is left make the whole, and the most so far and the most of what is left make the most of all
abbrev pub invariant-loop-item : goal.invariant-loop-item
invariant-loop-item l =
    (l.total ≤ 2 ^ 64 - 1) × (min (l.total + items_weight (founds_view (drop l.item-index l.item-items))) (2 ^ 64 - 1) ≡ min (items_weight (founds_view l.item-items)) (2 ^ 64 - 1))
    × (l.most ≤ 2 ^ 64 - 1) × (min (max l.most (items_depth (founds_view (drop l.item-index l.item-items)))) (2 ^ 64 - 1) ≡ min (items_depth (founds_view l.item-items)) (2 ^ 64 - 1))
