use Rattle.std.proofs.lemmas.Result.{on_ok_weaker}
use Rattle.pg_scope.proofs.ScopeLemmas.{path_added}
use Rattle.pg_scope.specs.Names.{names_in}
use Rattle.pg_syntax_tree.specs.View.{path_view}
use Rattle.pg_scope.proofs.scopes.add_path.Goals as goal

pub returns : goal.returns
returns c =
    on_ok_weaker c.add_hops.result (λ hops. path_added (path_view c.args.path.now) (names_in c.args.names.now) c.in_ok-add_variable.ensures c.in_ok-add_variable-2.ensures hops) c.add_hops.ensures
