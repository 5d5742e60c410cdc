use Rattle.std.proofs.Common.{◌≡◌, drop}
use Rattle.pg_tree_equality.specs.Codes.{with_names}
use Rattle.pg_syntax_tree.specs.View.{names_view}
use Rattle.pg_tree_equality.proofs.codes.add_names.Given as goal

abbrev pub invariant-loop-name : goal.invariant-loop-name
invariant-loop-name l = with_names (names_view (drop l.name-index l.names.items)) l.code.items ≡ with_names (names_view l.names.items) l.fn.code.items
