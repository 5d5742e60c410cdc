use Rattle.std.proofs.Common.{◌≡◌, ◌++◌, drop}
use Rattle.pg_meaning.specs.Patterns.{nodes_of}
use Rattle.pg_syntax_tree.specs.View.{path_view}
use Rattle.pg_plan.specs.Places.{nodes_in, hop_nodes}
use Rattle.pg_plan.proofs.nodes.nodes_of.Given as goal

abbrev pub invariant-loop-node : goal.invariant-loop-node
invariant-loop-node l = nodes_in l.nodes.items ++ hop_nodes (drop l.node-index l.path.hops.items) ≡ nodes_of (path_view l.path)
