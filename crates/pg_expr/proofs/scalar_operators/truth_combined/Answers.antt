use Rattle.pg_expr.proofs.ScalarLemmas.{second_told, nothing_then, at_each}
use Rattle.pg_expr.specs.Scalars.{scalar_view}
use Rattle.pg_meaning.specs.Expressions.{combined}
use Rattle.pg_expr.proofs.scalar_operators.truth_combined.Goals as goal

pub returns-in-Some : goal.returns-in-Some
returns-in-Some c = λ v h. second_told (scalar_view c.args.w) c.in-Some.t c.truths.result (scalar_view c.judged.result) (combined c.args.operator v) c.in-Some.ensures c.judged.ensures (at_each c.args.operator c.args.s c.in-Some.t c.truths.result v h c.truths.ensures)

pub returns-in-None : goal.returns-in-None
returns-in-None c = λ v h. nothing_then (scalar_view c.args.w) (combined c.args.operator v)
