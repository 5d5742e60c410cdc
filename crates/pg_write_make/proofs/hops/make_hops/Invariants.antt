use Rattle.std.proofs.Common.{◌≡◌, ◌++◌, true, Ok, drop}
use Rattle.std.specs.Vec.Iter.{into_iter_items}
use Rattle.pg_meaning.specs.Answer.{◌>>=◌}
use Rattle.pg_meaning.specs.Graph.{has_node}
use Rattle.pg_write_make.specs.Makings.{node_ids, outcomes_view, relationship_ids, relationships_view, AreThere, Grows}
use Rattle.pg_write_make.specs.Outcomes.{hops_made}
use Rattle.pg_write_make.proofs.hops.make_hops.Given as goal

abbrev pub invariant-loop-hop : goal.invariant-loop-hop
invariant-loop-hop g l =
    let before = l.fn.live.graph in
    let now = l.live.graph in
    record {
      rest : hops_made l.query.max_elements (outcomes_view l.fn.outcomes.items) (relationships_view l.hops.items) l.fn.first.0 (node_ids l.fn.others) before
          ≡ (hops_made l.query.max_elements (outcomes_view (into_iter_items l.rest)) (relationships_view (drop l.hop-index l.hops.items)) l.left.0 (node_ids l.ahead) now >>= λ made. Ok (made.0, relationship_ids l.made.items ++ made.1));
      left : has_node now l.left.0 ≡ true;
      ahead : AreThere now (node_ids l.ahead);
      grows : Grows before now;
      aside : l.live.aside ≡ l.fn.live.aside;
    }
