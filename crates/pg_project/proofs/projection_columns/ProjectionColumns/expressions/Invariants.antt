use Rattle.std.proofs.Common.{◌≡◌, ◌++◌, drop, map}
use Rattle.pg_project.specs.Columns.{trees_in, values_in_items}
use Rattle.pg_project.specs.Items.{expressions_view}
use Rattle.pg_syntax_tree.specs.View.{item_view}
use Rattle.pg_project.proofs.projection_columns.ProjectionColumns.expressions.Given as goal

abbrev pub invariant-loop-expression : goal.invariant-loop-expression
invariant-loop-expression l = expressions_view l.found.items ++ trees_in (drop l.expression-index l.self.starred.items) ≡ trees_in l.self.starred.items

abbrev pub invariant-loop-item : goal.invariant-loop-item
invariant-loop-item l = expressions_view l.found.items ++ values_in_items (map item_view (drop l.item-index l.self.items.now.items)) ≡ trees_in l.self.starred.items ++ values_in_items (map item_view l.self.items.now.items)
