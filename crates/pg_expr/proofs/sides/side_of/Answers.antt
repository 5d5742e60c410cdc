use Rattle.std.proofs.Common.{ap, ◌∙◌}
use Rattle.pg_expr.proofs.SideLemmas.{at_names, at_parameters, parameter_is, side_as, variable_is}
use Rattle.pg_meaning.specs.Tree as tree
use Rattle.pg_syntax_tree.specs.View.{expression_view, name_view}
use Rattle.pg_value_core.specs.Given.{parameters_view}
use Rattle.pg_expr.proofs.sides.side_of.Goals as goal

pub returns-in-Parameter : goal.returns-in-Parameter
returns-in-Parameter c =
    let names = c.args.names.now in
    let parameters = parameters_view c.args.parameters.now in
    let is = tree.parameter (name_view c.in-Parameter.name) in
    side_as names parameters (expression_view c.args.expression.now) is c.parameter_side.result (ap expression_view c.in-Parameter.is ∙ parameter_is c.in-Parameter.name)
    (at_names names parameters is c.parameter_side.result c.parameter_side.ensures)

pub returns-in-Variable : goal.returns-in-Variable
returns-in-Variable c =
    let names = c.args.names.now in
    let parameters = parameters_view c.args.parameters.now in
    let is = tree.variable (name_view c.in-Variable.name) in
    side_as names parameters (expression_view c.args.expression.now) is c.column_side.result (ap expression_view c.in-Variable.is ∙ variable_is c.in-Variable.name)
    (at_parameters names parameters is c.column_side.result c.column_side.ensures)
