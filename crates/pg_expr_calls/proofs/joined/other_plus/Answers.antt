use Rattle.std.proofs.Common.{sym, ap, ◌∙◌}
use Rattle.pg_expr_calls.proofs.Sums.{sum_before_list}
use Rattle.pg_value_core.specs.Parts.{value_of_parts}
use Rattle.pg_value_core.specs.View.{view}
use Rattle.pg_expr_calls.proofs.joined.other_plus.Goals as goal

pub returns-in-List-clause-ok : goal.returns-in-List-clause-ok
returns-in-List-clause-ok c = rw (sum_before_list (view c.args.v) c.args.w c.in-List.ys (sym c.into_parts.ensures ∙ ap value_of_parts c.in-List.is) c.requires) c.prepend.ensures.ok

pub returns-in-List-clause-err : goal.returns-in-List-clause-err
returns-in-List-clause-err c = rw (sum_before_list (view c.args.v) c.args.w c.in-List.ys (sym c.into_parts.ensures ∙ ap value_of_parts c.in-List.is) c.requires) c.prepend.ensures.err
