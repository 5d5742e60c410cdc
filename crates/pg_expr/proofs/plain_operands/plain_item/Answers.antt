use Rattle.pg_expr.proofs.PlainReads.{item_told}
use Rattle.pg_expr.specs.Scalars.{scalar_view}
use Rattle.pg_expr.proofs.plain_operands.plain_item.Goals as goal

pub returns-in-Some : goal.returns-in-Some
returns-in-Some g c = item_told c.args.context.now c.args._graph.now _ _ c.args.expression.now (scalar_view c.variable_item.result) c.in-Some.ensures (c.variable_item.ensures c.args._graph.now)
