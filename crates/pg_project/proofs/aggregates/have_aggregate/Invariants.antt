use Rattle.std.proofs.Common.{◌≡◌, drop, is_some}
use Rattle.std.specs.List.{list_any}
use Rattle.pg_project.specs.Items.{expressions_view}
use Rattle.pg_meaning.specs.Aggregates.{aggregate_of}
use Rattle.pg_project.proofs.aggregates.have_aggregate.Given as goal

abbrev pub invariant-loop-expression : goal.invariant-loop-expression
invariant-loop-expression l = list_any (λ e. is_some (aggregate_of e)) (expressions_view l.expressions.items) ≡ list_any (λ e. is_some (aggregate_of e)) (expressions_view (drop l.expression-index l.expressions.items))
