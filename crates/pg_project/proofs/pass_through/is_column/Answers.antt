use Rattle.std.proofs.Common.{is_some, sym, ap, ◌∙◌}
use Rattle.pg_meaning.specs.Names.{is_among}
use Rattle.pg_project.proofs.ColumnViews.{variable_seen}
use Rattle.pg_project.proofs.Unseen.{among}
use Rattle.pg_project.specs.Given.{is_column}
use Rattle.pg_syntax_tree.specs.View.{expression_view}
use Rattle.pg_project.proofs.pass_through.is_column.Goals as goal

pub returns-in-Variable : goal.returns-in-Variable
returns-in-Variable c =
    let columns = c.args.columns.now in
    c.is_some.ensures ∙ ap is_some c.find.ensures ∙ among c.as_str.result.now columns ∙ ap (is_among columns) c.as_str.ensures.value
    ∙ ap (is_column columns) (sym (ap expression_view c.in-Variable.is ∙ variable_seen c.in-Variable.name))
