use Rattle.pg_expr.proofs.ScalarLemmas.{logic_told, nothing_of_both}
use Rattle.pg_expr.specs.Scalars.{scalar_view}
use Rattle.pg_meaning.specs.Expressions.{combined}
use Rattle.pg_expr.proofs.scalar_operators.logic.Goals as goal

pub returns-in-Some : goal.returns-in-Some
returns-in-Some c = logic_told (scalar_view c.args.v) (scalar_view c.args.w) c.in-Some.s (scalar_view c.truth_combined.result) (combined c.args.operator) c.in-Some.ensures c.truth_combined.ensures

pub returns-in-None : goal.returns-in-None
returns-in-None c = nothing_of_both (scalar_view c.args.v) (scalar_view c.args.w) (combined c.args.operator)
