use Rattle.std.proofs.Common.{◌≡◌, ◌≤◌, ◌-◌, drop, length}
use Rattle.pg_graph.proofs.InOrder.{past}
use Rattle.pg_graph.proofs.in_order.place.Given as goal
use Rattle.pg_graph.specs.InOrder.{place_in}

abbrev pub invariant-loop-at : goal.invariant-loop-at
invariant-loop-at l = record {
  within : l.at ≤ length l.found;
  place : place_in l.key l.found ≡ past l.at (place_in l.key (drop l.at l.found));
}

abbrev pub decreases-loop-at : goal.decreases-loop-at
decreases-loop-at l = length l.found - l.at
