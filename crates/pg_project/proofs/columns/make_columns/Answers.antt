use Rattle.std.proofs.Common.{◌≡◌, ◌++◌, map, ap, ◌∙◌}
use Rattle.pg_meaning.specs.Scopes.{column_names}
use Rattle.pg_project.proofs.ColumnViews.{whole}
use Rattle.pg_scope.specs.Columns.{column_of}
use Rattle.pg_project.specs.Columns.{star_names, trees_in, values_in_items, variable_trees}
use Rattle.pg_project.specs.Items.{columns_of}
use Rattle.pg_syntax_tree.specs.View.{projection_view}
use Rattle.std.proofs.lemmas.Result.{IfOk-from_err}
use Rattle.pg_project.proofs.columns.make_columns.Goals as goal

pub returns : goal.returns
returns c =
    let p = projection_view c.args.projection.now in
    let stars = star_names c.args.scope.now p.star in
    let items = column_names (map (column_of c.args.naming) p.items) in
    let named : c.push_names.new.names ≡ stars ++ items = c.in_ok-push_names.ensures ∙ ap (λ ns. ns ++ items) c.in_ok-names.ensures in
    let trees : trees_in c.in_ok-starred.starred.items ≡ variable_trees stars = c.in_ok-starred.ensures ∙ ap variable_trees c.in_ok-names.ensures in
    (λ i. columns_of (named i) (trees i ++ values_in_items p.items)) ∙ whole c.args.naming c.args.scope.now p

pub returns-in_err-names : goal.returns-in_err-names
returns-in_err-names c = IfOk-from_err c.from_residual.result _ c.from_residual.ensures.0

pub returns-in_err-starred : goal.returns-in_err-starred
returns-in_err-starred c = IfOk-from_err c.from_residual-in_err-starred.result _ c.from_residual-in_err-starred.ensures.0

pub returns-in_err-push_names : goal.returns-in_err-push_names
returns-in_err-push_names c = IfOk-from_err c.from_residual-in_err-push_names.result _ c.from_residual-in_err-push_names.ensures.0
