use Rattle.std.proofs.Common.{◌≡◌, ◌++◌, map, drop}
use Rattle.pg_write_make.specs.Lent.{kept_view, paths_view}
use Rattle.pg_write_make.specs.Outcomes.{path_outcomes}
use Rattle.pg_write_make.specs.Scenes.{row_in, parameters_in, reading}
use Rattle.pg_write_make.proofs.kept.kept_values.Given as goal

abbrev pub invariant-loop-path : goal.invariant-loop-path
invariant-loop-path g l =
    let given = path_outcomes (reading (parameters_in l.scene)) l.graph (row_in l.scene l.row) in
    map kept_view l.kept.items ++ map given (paths_view (drop l.path-index l.paths)) ≡ map given (paths_view l.paths)
