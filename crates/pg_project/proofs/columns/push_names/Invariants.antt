use Rattle.std.proofs.Common.{◌≡◌, ◌++◌, map, drop}
use Rattle.pg_meaning.specs.Scopes.{column_names}
use Rattle.pg_syntax_tree.specs.View.{item_view}
use Rattle.pg_scope.specs.Columns.{column_of}
use Rattle.pg_project.proofs.columns.push_names.Given as goal

abbrev pub invariant-loop-item : goal.invariant-loop-item
invariant-loop-item l = l.names ++ column_names (map (column_of l.naming) (map item_view (drop l.item-index l.items.items))) ≡ l.fn.names ++ column_names (map (column_of l.naming) (map item_view l.items.items))
