use Rattle.std.proofs.Common.{◌≡◌, List, ◌++◌, drop, map}
use Rattle.std.specs.Prelude.{flat_map}
use Rattle.pg_meaning.specs.StaticFaults.{Part, least, path_parts, parts_faults}
use Rattle.pg_scope.specs.Modes.{mode_view}
use Rattle.pg_scope.specs.Names.{names_in}
use Rattle.pg_scope.specs.Used.{used_in}
use Rattle.pg_syntax_tree.specs.View.{path_view}
use Rattle.pg_scope.proofs.paths.pass_paths.Given as goal

abbrev pub invariant-loop-path : goal.invariant-loop-path
invariant-loop-path l = (rest : List Part)
    → least l.fn.first (parts_faults (mode_view l.mode) (names_in l.outer) (used_in l.fn.used) (flat_map path_parts (map path_view l.paths.items) ++ rest))
    ≡ least l.first (parts_faults (mode_view l.mode) (names_in l.outer) (used_in l.used) (flat_map path_parts (map path_view (drop l.path-index l.paths.items)) ++ rest))
