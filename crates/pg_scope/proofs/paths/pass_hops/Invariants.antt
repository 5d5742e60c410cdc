use Rattle.std.proofs.Common.{◌≡◌, List, ◌++◌, drop, map}
use Rattle.std.specs.Prelude.{flat_map}
use Rattle.pg_meaning.specs.StaticFaults.{Part, least, hop_parts, parts_faults}
use Rattle.pg_scope.specs.Modes.{mode_view}
use Rattle.pg_scope.specs.Names.{names_in}
use Rattle.pg_scope.specs.Used.{used_in}
use Rattle.pg_syntax_tree.specs.View.{hop_view}
use Rattle.pg_scope.proofs.paths.pass_hops.Given as goal

abbrev pub invariant-loop-relationship : goal.invariant-loop-relationship
invariant-loop-relationship l = (rest : List Part)
    → least l.fn.first (parts_faults (mode_view l.mode) (names_in l.outer) (used_in l.fn.used) (flat_map hop_parts (map hop_view l.hops.items) ++ rest))
    ≡ least l.first (parts_faults (mode_view l.mode) (names_in l.outer) (used_in l.used) (flat_map hop_parts (map hop_view (drop l.relationship-index l.hops.items)) ++ rest))
