use Rattle.std.proofs.Common.{◌≡◌, ◌++◌, map, drop}
use Rattle.pg_write_make.specs.Bindings.{match_bindings, named}
use Rattle.pg_write_make.specs.Lent.{bindings_view, paths_view, trail_view}
use Rattle.pg_write_make.proofs.trails.row_bindings.Given as goal

abbrev pub invariant-loop-path : goal.invariant-loop-path
invariant-loop-path g l =
    named (match_bindings l.graph (paths_view l.paths) (map trail_view l.trails.items))
    ≡ bindings_view l.bindings.items ++ named (match_bindings l.graph (paths_view (drop l.path-index l.paths)) (map trail_view l.rest))
