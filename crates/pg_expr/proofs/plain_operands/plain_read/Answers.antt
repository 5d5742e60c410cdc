use Rattle.pg_expr.proofs.PlainReads.{read_told}
use Rattle.pg_expr.specs.Scalars.{scalar_view}
use Rattle.pg_expr.proofs.plain_operands.plain_read.Goals as goal

pub returns-in-Some : goal.returns-in-Some
returns-in-Some g c = read_told c.args.context.now c.args.graph.now _ _ c.args.expression.now (scalar_view c.variable_property.result) c.in-Some.ensures c.variable_property.ensures
