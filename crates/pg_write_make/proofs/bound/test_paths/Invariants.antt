use Rattle.std.proofs.Common.{◌≡◌, false, drop}
use Rattle.pg_meaning.specs.Reading.{test_paths}
use Rattle.pg_write_make.specs.Lent.{paths_view}
use Rattle.pg_write_make.specs.Scenes.{row_in}
use Rattle.pg_write_make.proofs.bound.test_paths.Given as goal

abbrev pub invariant-loop-path : goal.invariant-loop-path
invariant-loop-path g l =
    let row = row_in l.scene l.row in
    test_paths false l.graph row (paths_view l.paths) ≡ test_paths false l.graph row (paths_view (drop l.path-index l.paths))
