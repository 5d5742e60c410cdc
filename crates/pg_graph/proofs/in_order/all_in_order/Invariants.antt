use Rattle.std.proofs.Common.{◌≡◌, ◌≤◌, drop, length}
use Rattle.pg_graph.proofs.in_order.all_in_order.Given as goal
use Rattle.pg_graph.specs.InOrder.{listed_entries}
use Rattle.pg_graph.specs.Records.{seen_entries}
use Rattle.pg_graph.specs.Refinement.{named_entries}

-- what is behind the place is found
abbrev pub invariant-loop-left : goal.invariant-loop-left
invariant-loop-left g l = record {
  within : l.left ≤ length l.entries;
  found : listed_entries l.found.entries ≡ named_entries l.names (seen_entries (drop l.left l.entries));
}

abbrev pub decreases-loop-left : goal.decreases-loop-left
decreases-loop-left g l = l.left
