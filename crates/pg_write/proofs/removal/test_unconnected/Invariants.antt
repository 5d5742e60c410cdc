use Rattle.std.proofs.Common.{◌≡◌}
use Rattle.std.specs.List.{list_any}
use Rattle.pg_meaning.specs.Updates.{is_connected}
use Rattle.pg_write.proofs.removal.test_unconnected.Given as goal

abbrev pub invariant-loop-node : goal.invariant-loop-node
invariant-loop-node g l = list_any (is_connected l.graph) l.nodes.keys ≡ list_any (is_connected l.graph) l.node-iterator
