use Rattle.std.proofs.Common.{◌≡◌, ◌≤◌, ◌+◌, ◌++◌, length, map, take}
use Rattle.std.specs.Vec.{vec_capacity}
use Rattle.pg_graph.proofs.places.push_blanks.Given as goal
use Rattle.pg_value_core.specs.declared.value.Value.TheVariants.{Null}

abbrev pub invariant-loop-key : goal.invariant-loop-key
invariant-loop-key l = record {
  items : l.entries.items ≡ l.fn.entries.items ++ map (λ key. (key, Null)) (take l.key-index l.keys);
  room : length l.fn.entries.items + length l.keys ≤ vec_capacity l.entries;
}
