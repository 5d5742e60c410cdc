-- What prepared expressions stand for: a tree over columns of these names; of a condition also the names and the parameters for which it was prepared.
use Rattle.std.specs.Prelude.{ℕ, List, Option, option_map}
use Rattle.pg_expr.specs.declared.prepared.Form.{Form}
use Rattle.pg_expr.specs.declared.prepared.Form.TheVariants.{Column, Item, Property, Other}
use Rattle.pg_expr.specs.declared.prepared.Prepared.{Prepared}
use Rattle.pg_expr.specs.Reads.{item_read, property_read}
use Rattle.pg_expr.specs.declared.prepared_condition.PreparedCondition.{PreparedCondition}
use Rattle.pg_meaning.specs.Tree.{Expression, variable}
use Rattle.pg_meaning.specs.Value.{Entries}
use Rattle.pg_syntax_tree.specs.View.{expression_view, name_view}
use Rattle.pg_value_core.specs.Given.{parameters_view}

abbrev pub form_tree : Form → Expression
form_tree (Column name near) = variable (name_view name.now)
form_tree (Property name key near) = property_read (name_view name.now) (name_view key.now)
form_tree (Item name place near) = item_read (name_view name.now) place
form_tree (Other e tells) = expression_view e.now

abbrev pub tree_of : (names : List (List ℕ)) → Prepared → Expression
tree_of names p = form_tree p.form

abbrev pub condition_of : PreparedCondition → Option Expression
condition_of p = option_map (λ e. expression_view e.now) p.whole

abbrev pub names_of : PreparedCondition → List (List ℕ)
names_of p = p.names.now

abbrev pub parameters_of : PreparedCondition → Entries
parameters_of p = parameters_view p.parameters.now
