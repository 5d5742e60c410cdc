use Rattle.std.proofs.Common.{◌≡◌, ◌≤◌, ◌+◌, ◌++◌, drop, length, take}
use Rattle.pg_graph.proofs.places.merge_blanks.Given as goal
use Rattle.pg_graph.specs.Records.{with_blank_entries}

-- what is not merged yet, merged, and what is merged behind it, is all
abbrev pub invariant-loop-left : goal.invariant-loop-left
invariant-loop-left l = record {
  before : l.before ≤ l.count;
  left : l.left ≤ length l.keys;
  room : length l.entries.items ≡ l.count + length l.keys;
  front : take l.before l.entries.items ≡ take l.before (take l.count l.fn.entries.items);
  merged : with_blank_entries (take l.before (take l.count l.fn.entries.items)) (take l.left l.keys) ++ drop (l.before + l.left) l.entries.items ≡ with_blank_entries (take l.count l.fn.entries.items) l.keys;
}

abbrev pub decreases-loop-left : goal.decreases-loop-left
decreases-loop-left l = l.before + l.left
