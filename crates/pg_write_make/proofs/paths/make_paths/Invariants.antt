use Rattle.std.proofs.Common.{◌≡◌, ◌++◌, false, Ok, map, drop}
use Rattle.std.specs.Vec.Iter.{into_iter_items}
use Rattle.pg_meaning.specs.Answer.{◌>>=◌}
use Rattle.pg_meaning.specs.Reading.{test_paths}
use Rattle.pg_write_make.specs.Lent.{kept_view, paths_view, trail_view}
use Rattle.pg_write_make.specs.Makings.{bindings, named_ids, AreThere}
use Rattle.pg_write_make.specs.Outcomes.{paths_made}
use Rattle.pg_write_make.specs.Scenes.{max_elements_in, row_at}
use Rattle.pg_write_make.proofs.paths.make_paths.Given as goal

abbrev pub invariant-loop-path : goal.invariant-loop-path
invariant-loop-path g l =
    let row = row_at l.row in
    let before = l.fn.live.graph in
    let now = l.live.graph in
    record {
      rest : paths_made (max_elements_in l.row.scene.now) (map kept_view l.fn.kept.items) (paths_view l.paths) (before, row)
          ≡ (paths_made (max_elements_in l.row.scene.now) (map kept_view (into_iter_items l.rest)) (paths_view (drop l.path-index l.paths)) (now, row ++ bindings l.named.items) >>= λ made. Ok (made.0, map trail_view l.trails.items ++ made.1));
      tested : test_paths false now row (paths_view (drop l.path-index l.paths)) ≡ Ok tt;
      there : AreThere now (named_ids l.named.items);
      aside : l.live.aside ≡ l.fn.live.aside;
    }
