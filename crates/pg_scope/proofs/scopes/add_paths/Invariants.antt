use Rattle.std.proofs.Common.{◌≡◌, drop, map}
use Rattle.pg_meaning.specs.Names.{Names}
use Rattle.pg_meaning.specs.Patterns.{add_path_names}
use Rattle.pg_scope.specs.Names.{names_in, HasSame}
use Rattle.pg_syntax_tree.specs.View.{path_view}
use Rattle.pg_scope.proofs.scopes.add_paths.Given as goal

abbrev pub invariant-loop-path : goal.invariant-loop-path
invariant-loop-path l = (ns : Names) × HasSame (names_in l.names) ns × (add_path_names (map path_view l.paths.items) (names_in l.fn.names) ≡ add_path_names (map path_view (drop l.path-index l.paths.items)) ns)
