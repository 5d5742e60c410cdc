use Rattle.std.proofs.Common.{◌≡◌, length, map, drop, sum}
use Rattle.pg_meaning.specs.Meters.{Setting, spend}
use Rattle.pg_project.specs.Unwound.{lists_view}
use Rattle.pg_project.proofs.lists.spend_items.Given as goal

abbrev pub invariant-loop-list : goal.invariant-loop-list
invariant-loop-list l = record {
  left : (s : Setting) → s.quota.max_steps ≡ l.fn.meter.limit → spend s l.fn.meter.used (sum (map length (lists_view l.lists.items))) ≡ spend s l.meter.used (sum (map length (lists_view (drop l.list-index l.lists.items))));
  limit : l.meter.limit ≡ l.fn.meter.limit;
}
