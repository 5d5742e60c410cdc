-- What the columns of the program stand for.
use Rattle.std.specs.Borrow.{Bor}
use Rattle.std.specs.Prelude.{ℕ, false, List, [], ◌++◌, map, Option, Some, None}
use Rattle.pg_meaning.specs.Names.{Names, in_byte_order}
use Rattle.pg_meaning.specs.Scopes.{Column, projection_columns}
use Rattle.pg_meaning.specs.Tree.{Expression, variable, Item, Projection}
use Rattle.pg_scope.specs.Columns.{column_of}
use Rattle.pg_scope.specs.declared.columns.Naming.{Naming}
use Rattle.pg_syntax_tree.specs.View.{expression_view, item_view}
use Rattle.pg_syntax_tree.specs.declared.expression.Expression.{Expression as Code}
use Rattle.pg_project.specs.Items.{columns_of}
use Rattle.pg_project.specs.declared.projection_columns.ProjectionColumns.{ProjectionColumns}

abbrev pub trees_in : List Code → List Expression
trees_in es = map expression_view es

abbrev pub values_in_items : List Item → List Expression
values_in_items items = map (λ i. i.value) items

abbrev pub columns_view : ProjectionColumns → List Column
columns_view c = columns_of c.names (trees_in c.starred.items ++ values_in_items (map item_view c.items.now.items))

abbrev pub naming_columns : Naming → (scope : Names) → Projection → List Column
naming_columns naming scope p = projection_columns (column_of naming) scope p

-- the names that '*' stands for
abbrev pub star_names : (scope : Names) → Option ℕ → Names
star_names scope None = []
star_names scope (Some place) = in_byte_order scope

abbrev pub variable_tree : List ℕ → Expression
variable_tree t = variable (record { text = t; quoted = false; place = 0 })

abbrev pub variable_trees : Names → List Expression
variable_trees names = map variable_tree names

abbrev pub texts_of : List (Bor (List ℕ)) → Names
texts_of texts = map (λ t. t.now) texts
