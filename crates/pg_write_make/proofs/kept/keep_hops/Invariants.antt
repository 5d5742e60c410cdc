use Rattle.std.proofs.Common.{◌≡◌, ◌++◌, map, drop}
use Rattle.pg_write_make.specs.Makings.{others_view, outcomes_view, relationships_view}
use Rattle.pg_write_make.specs.Outcomes.{node_outcome, relationship_outcome}
use Rattle.pg_write_make.specs.Scenes.{row_in, parameters_in, reading}
use Rattle.pg_write_make.proofs.kept.keep_hops.Given as goal

abbrev pub invariant-loop-hop : goal.invariant-loop-hop
invariant-loop-hop g l =
    let of_node = node_outcome (reading (parameters_in l.scene)) l.graph (row_in l.scene l.row) in
    let of_relationship = relationship_outcome (reading (parameters_in l.scene)) l.graph (row_in l.scene l.row) in
    record {
      nodes : outcomes_view l.fn.nodes.items ++ map of_node (others_view l.hops.items) ≡ outcomes_view l.nodes.items ++ map of_node (others_view (drop l.hop-index l.hops.items));
      relationships : outcomes_view l.fn.relationships.items ++ map of_relationship (relationships_view l.hops.items)
          ≡ outcomes_view l.relationships.items ++ map of_relationship (relationships_view (drop l.hop-index l.hops.items));
    }
