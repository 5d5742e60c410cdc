use Rattle.pg_graph.proofs.Refined.{names_may_grow, node_is_added, relationship_is_added, node_is_changed, relationship_is_changed, node_is_dropped, relationship_is_dropped}
use Rattle.pg_graph.proofs.laws.law_of_table_changes.Goals as goal

pub returns : goal.returns
returns c = record {
  more_names = names_may_grow;
  node_added = node_is_added;
  relationship_added = relationship_is_added;
  node_changed = node_is_changed;
  relationship_changed = relationship_is_changed;
  node_dropped = node_is_dropped;
  relationship_dropped = relationship_is_dropped;
}
