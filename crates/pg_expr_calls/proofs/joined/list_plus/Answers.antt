use Rattle.std.proofs.Common.{◌∙◌}
use Rattle.pg_expr_calls.proofs.Sums.{sum_with_parts}
use Rattle.pg_value_core.specs.View.{values_view}
use Rattle.pg_expr_calls.proofs.joined.list_plus.Goals as goal

pub returns-in_default : goal.returns-in_default
returns-in_default c =
    rw (sum_with_parts (values_view c.args.xs.value.items) c.into_parts.result c.args.w c.into_parts.ensures c.in_default.not-Null c.in_default.not-List)
    (rw (← (c.into_value.ensures ∙ c.into_parts.ensures)) c.append.ensures)
