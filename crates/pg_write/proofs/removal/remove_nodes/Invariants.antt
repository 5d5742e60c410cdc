use Rattle.std.proofs.Common.{◌≡◌, []}
use Rattle.std.specs.List.{AllByRecursion}
use Rattle.std.specs.Prelude.{IsTrue}
use Rattle.pg_meaning.specs.Graph.{both, has_node, incident, remove_elements}
use Rattle.pg_write.specs.Gathered.{Rises}
use Rattle.pg_write.proofs.removal.remove_nodes.Given as goal

abbrev pub invariant-loop-node : goal.invariant-loop-node
invariant-loop-node g l =
    let graph = l.live.graph in
    record {
      rest : remove_elements l.node-iterator [] graph ≡ remove_elements l.nodes.keys [] l.fn.live.graph;
      there : AllByRecursion (λ n. IsTrue (has_node graph n)) l.node-iterator;
      rises : Rises l.node-iterator;
      apart : AllByRecursion (λ n. incident both n graph ≡ []) l.node-iterator;
      names : l.live.names ≡ l.fn.live.names;
      tables : l.live.tables ≡ l.fn.live.tables;
      aside : l.live.aside ≡ l.fn.live.aside;
    }
