use Rattle.std.proofs.Common.{[], drop, map}
use Rattle.std.specs.Prelude.{flat_map}
use Rattle.pg_meaning.specs.Patterns.{nodes_of}
use Rattle.pg_scope.specs.Names.{names_in}
use Rattle.pg_syntax_tree.specs.View.{path_view}
use Rattle.pg_plan.specs.Places.{AreLeft}
use Rattle.pg_plan.proofs.nodes.node_names.Given as goal

abbrev pub invariant-loop-path : goal.invariant-loop-path
invariant-loop-path l = AreLeft (names_in l.names) (flat_map nodes_of (map path_view (drop l.path-index l.paths.items))) [] (flat_map nodes_of (map path_view l.paths.items))
