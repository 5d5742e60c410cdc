use Rattle.std.proofs.Common.{sym, ap, ◌∙◌}
use Rattle.pg_expr.proofs.ScalarLemmas.{tells_by, told_is}
use Rattle.pg_expr.proofs.Turns as turn
use Rattle.pg_expr.specs.Contexts.{given, row_at, parameters_at}
use Rattle.pg_expr.specs.Scalars.{scalar_view}
use Rattle.pg_meaning.specs.Entries.{at_key}
use Rattle.pg_meaning.specs.Expressions.{or_fault}
use Rattle.pg_meaning.specs.Rows.{value_in}
use Rattle.pg_meaning.specs.declared.fault.Fault.TheVariants.{MissingParameter, UndefinedVariable}
use Rattle.pg_syntax_tree.specs.View.{expression_view, literal_view}
use Rattle.pg_expr.proofs.plain_operands.plain.Goals as goal

pub returns-in-Literal : goal.returns-in-Literal
returns-in-Literal g c =
    let s = c.args.context.now in
    let graph = c.args.graph.now in
    told_is (literal_view c.in-Literal.held) c.literal.ensures (ap (λ e. given s graph (expression_view e)) c.in-Literal.is ∙ turn.of_literal s graph c.in-Literal.held)

pub returns-in-Variable : goal.returns-in-Variable
returns-in-Variable g c =
    let s = c.args.context.now in
    let graph = c.args.graph.now in
    tells_by (scalar_view c.variable.result) (ap (λ e. given s graph (expression_view e)) c.in-Variable.is ∙ turn.of_variable s graph c.in-Variable.name ∙ ap (λ k. or_fault (value_in k (row_at s)) UndefinedVariable) (sym c.as_str.ensures.value))
    c.variable.ensures

pub returns-in-Parameter : goal.returns-in-Parameter
returns-in-Parameter g c =
    let s = c.args.context.now in
    let graph = c.args.graph.now in
    tells_by (scalar_view c.parameter.result) (ap (λ e. given s graph (expression_view e)) c.in-Parameter.is ∙ turn.of_parameter s graph c.in-Parameter.name ∙ ap (λ k. or_fault (at_key k (parameters_at s)) MissingParameter) (sym c.as_str-in-Parameter.ensures.value))
    c.parameter.ensures
