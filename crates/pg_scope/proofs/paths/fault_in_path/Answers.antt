use Rattle.pg_meaning.specs.StaticFaults.{path_parts}
use Rattle.pg_scope.proofs.PartLemmas.{then_passed_alone}
use Rattle.pg_scope.specs.Modes.{mode_view}
use Rattle.pg_scope.specs.Names.{names_in}
use Rattle.pg_scope.specs.Used.{used_in}
use Rattle.pg_syntax_tree.specs.View.{path_view}
use Rattle.pg_scope.proofs.paths.fault_in_path.Goals as goal

pub returns : goal.returns
returns c =
    then_passed_alone (mode_view c.args.mode) (names_in c.args.outer.now) (used_in c.new-used.result) (used_in c.pass_path.new.used) c.args.first (path_parts (path_view c.args.path.now)) c.new-used.ensures c.pass_path.result c.pass_path.ensures
