use Rattle.std.proofs.Common.{◌≡◌, ◌++◌, map, drop}
use Rattle.pg_meaning.specs.Patterns.{single}
use Rattle.pg_syntax_tree.specs.View.{hop_view}
use Rattle.pg_write_make.specs.Bindings.{hop_bindings, named}
use Rattle.pg_write_make.specs.Lent.{bindings_view}
use Rattle.pg_write_make.specs.Makings.{node_ids, relationship_ids}
use Rattle.pg_write_make.proofs.trails.bind_hops.Given as goal

abbrev pub invariant-loop-hop : goal.invariant-loop-hop
invariant-loop-hop l =
    bindings_view l.fn.bindings.items ++ named (hop_bindings (map hop_view l.hops.items) (map single (relationship_ids l.relationships)) (node_ids l.nodes))
    ≡ bindings_view l.bindings.items ++ named (hop_bindings (map hop_view (drop l.hop-index l.hops.items)) (map single (relationship_ids l.bonds)) (node_ids l.ahead))
