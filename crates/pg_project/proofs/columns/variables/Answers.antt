use Rattle.std.proofs.Common.{false, ap, ◌∙◌}
use Rattle.pg_project.proofs.ColumnViews.{variable_pushed, variable_seen}
use Rattle.pg_project.specs.Columns.{variable_tree}
use Rattle.pg_syntax_tree.specs.declared.expression.Expression.TheVariants as code
use Rattle.pg_syntax_tree.specs.declared.expression.Name.{Name}
use Rattle.std.proofs.lemmas.Result.{IfOk-from_err}
use Rattle.pg_project.proofs.columns.variables.Goals as goal

pub loop-at-preserved : goal.loop-at-preserved
loop-at-preserved c =
    let name : Name = record { text = c.in_ok-from_str.field-0; quoted = false; place = 0 } in
    variable_pushed c.loop-at.found.items c.push.new.self.items (code.Variable name) c.args.names.now c.loop-at.at c.name.result.now c.in_ok-push.ensures.items (variable_seen name ∙ ap variable_tree c.in_ok-from_str.ensures.ok) c.name.ensures
    ∙ c.loop-at.invariant

pub returns-in_err-from_str : goal.returns-in_err-from_str
returns-in_err-from_str c = IfOk-from_err c.from_residual.result _ c.from_residual.ensures.0

pub returns-in_err-push : goal.returns-in_err-push
returns-in_err-push c = IfOk-from_err c.from_residual-in_err-push.result _ c.from_residual-in_err-push.ensures.0
