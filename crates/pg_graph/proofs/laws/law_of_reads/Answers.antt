use Rattle.pg_graph.proofs.Named.{label_is_read, property_is_read}
use Rattle.pg_graph.proofs.Refined.{node_is_read, relationship_is_read, outgoing_are_read, incoming_are_read}
use Rattle.pg_graph.proofs.laws.law_of_reads.Goals as goal

pub returns : goal.returns
returns c = record {
  node = node_is_read;
  relationship = relationship_is_read;
  outgoing = outgoing_are_read;
  incoming = incoming_are_read;
  label = label_is_read;
  property = property_is_read;
}
