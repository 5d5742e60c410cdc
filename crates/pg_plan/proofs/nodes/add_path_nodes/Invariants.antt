use Rattle.std.proofs.Common.{drop}
use Rattle.pg_meaning.specs.Patterns.{nodes_of}
use Rattle.pg_scope.specs.Names.{names_in}
use Rattle.pg_syntax_tree.specs.View.{path_view}
use Rattle.pg_plan.specs.Places.{hop_nodes, AreLeft}
use Rattle.pg_plan.proofs.nodes.add_path_nodes.Given as goal

abbrev pub invariant-loop-node : goal.invariant-loop-node
invariant-loop-node l = AreLeft (names_in l.names) (hop_nodes (drop l.node-index l.path.hops.items)) (names_in l.fn.names) (nodes_of (path_view l.path))
