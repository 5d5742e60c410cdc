use Rattle.pg_graph.proofs.Held.{held_is_graph, empty_holds, holds_with_more_names, holds_with_node, holds_with_relationship, holds_with_changed_node, holds_with_changed_relationship, holds_without_node, holds_without_relationship}
use Rattle.pg_graph.proofs.laws.law_of_table_graphs.Goals as goal

pub returns : goal.returns
returns c = record {
  graph = held_is_graph;
  empty = empty_holds;
  more_names = holds_with_more_names;
  node_added = holds_with_node;
  relationship_added = holds_with_relationship;
  node_changed = holds_with_changed_node;
  relationship_changed = holds_with_changed_relationship;
  node_dropped = holds_without_node;
  relationship_dropped = holds_without_relationship;
}
