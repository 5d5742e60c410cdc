use Rattle.std.proofs.Common.{Some, ap, ◌∙◌}
use Rattle.pg_expr.proofs.ScalarLemmas.{negated_told, nothing_then}
use Rattle.pg_expr.specs.Operators.{all_negated}
use Rattle.pg_expr.specs.Scalars.{scalar_view}
use Rattle.pg_meaning.specs.Logic.{value_of_truth}
use Rattle.pg_expr.proofs.scalar_operators.negated.Goals as goal

pub returns-in-Some : goal.returns-in-Some
returns-in-Some c = negated_told (scalar_view c.args.v) c.in-Some.t c.args.count (scalar_view c.of_truth.result) c.in-Some.ensures (c.of_truth.ensures ∙ ap (λ t. Some (value_of_truth t)) c.turned.ensures)

pub returns-in-None : goal.returns-in-None
returns-in-None c = nothing_then (scalar_view c.args.v) (all_negated c.args.count)
