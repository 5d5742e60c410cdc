use Rattle.std.proofs.Common.{◌≡◌, false, Ok, drop}
use Rattle.std.specs.Vec.Iter.{into_iter_items}
use Rattle.pg_meaning.specs.Reading.{test_nodes}
use Rattle.pg_write_make.specs.Makings.{making_of, others_view, outcomes_view, AllThere, Grows}
use Rattle.pg_write_make.specs.Outcomes.{nodes_made}
use Rattle.pg_write_make.specs.Scenes.{max_elements_in, row_at}
use Rattle.pg_write_make.proofs.making.make_others.Given as goal

abbrev pub invariant-loop-hop : goal.invariant-loop-hop
invariant-loop-hop g l =
    let row = row_at l.row in
    let before = l.fn.live.graph in
    let now = l.live.graph in
    record {
      rest : nodes_made (max_elements_in l.row.scene.now) (outcomes_view l.fn.outcomes.items) (others_view l.hops.items) (making_of before row l.fn.named.items l.fn.ids.items)
          ≡ nodes_made (max_elements_in l.row.scene.now) (outcomes_view (into_iter_items l.rest)) (others_view (drop l.hop-index l.hops.items)) (making_of now row l.named.items l.ids.items);
      tested : test_nodes false now row (others_view (drop l.hop-index l.hops.items)) ≡ Ok tt;
      there : AllThere now l.named.items l.ids.items;
      grows : Grows before now;
      aside : l.live.aside ≡ l.fn.live.aside;
    }
