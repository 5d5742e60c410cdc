use Rattle.std.proofs.Common.{map}
use Rattle.std.specs.Prelude.{flat_map}
use Rattle.pg_meaning.specs.StaticFaults.{path_parts}
use Rattle.pg_scope.proofs.PartLemmas.{then_passed}
use Rattle.pg_scope.specs.Modes.{mode_view}
use Rattle.pg_scope.specs.Names.{names_in}
use Rattle.pg_scope.specs.Used.{used_in}
use Rattle.pg_syntax_tree.specs.View.{path_view}
use Rattle.pg_scope.proofs.paths.fault_in_paths.Goals as goal

pub returns : goal.returns
returns c =
    then_passed (mode_view c.args.mode) (names_in c.args.outer.now) (used_in c.new-used.result) (used_in c.pass_paths.new.used) c.args.first (flat_map path_parts (map path_view c.args.paths.now.items)) c.new-used.ensures c.pass_paths.result c.pass_paths.ensures
