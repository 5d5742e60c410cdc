use Rattle.std.proofs.Common.{◌≡◌, ◌≤◌, ◌+◌, ◌++◌, drop}
use Rattle.pg_meaning.specs.Updates.{count_nodes}
use Rattle.pg_store.specs.Stores.{texts_of}
use Rattle.pg_write_make.specs.Makings.{patterns_view}
use Rattle.pg_write_make.proofs.counts.count_nodes.Given as goal

abbrev pub invariant-loop-node : goal.invariant-loop-node
invariant-loop-node l = record {
  rest : count_nodes l.names (patterns_view l.nodes.items) ≡ l.count + count_nodes (texts_of l.seen.items ++ l.names) (patterns_view (drop l.node-index l.nodes.items));
  few : l.count ≤ l.node-index;
}
